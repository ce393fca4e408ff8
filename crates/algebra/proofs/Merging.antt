-- Laws of the comparing and the merging of rows. Assumes nothing.
use Rattle.std.proofs.Common.{◌≡◌, ℕ, zero, suc, true, false, ◌||◌, [], ◌∷◌, length, eqb, ◌≢◌, refl, sym, ap}
use Rattle.std.proofs.Common.{◌∙◌, ⊎_elim, eq-eqb, ne_eqb, eqb-true, arith}
use Rattle.std.proofs.lemmas.Bool.{both_ways, and_from, and_parts, or_right, cond-true, cond-false, cases_eq}
use Rattle.filter.specs.Rows.{Row, none, value}
use Rattle.algebra.specs.Algebra.{agree, compatible, either, merge}

-- agree

pub agree-none : (x y : ℕ) → x ≡ none → agree x y ≡ true
agree-none x y e = ap (λ b. b || (eqb y 0 || eqb x y)) (eq-eqb x 0 e)

pub agree-with_none : (x y : ℕ) → y ≡ none → agree x y ≡ true
agree-with_none x y e = or_right (eqb x 0) (eqb y 0 || eqb x y) (ap (λ b. b || eqb x y) (eq-eqb y 0 e))

pub agree-same : (x y : ℕ) → x ≡ y → agree x y ≡ true
agree-same x y e = or_right (eqb x 0) _ (or_right (eqb y 0) _ (eq-eqb x y e))

-- two values that agree are the same
agree-values : (x y : ℕ) → x ≢ none → y ≢ none → agree x y ≡ eqb x y
agree-values x y p q =
    ap (λ b. b || (eqb y 0 || eqb x y)) (ne_eqb x 0 p) ∙ ap (λ b. b || eqb x y) (ne_eqb y 0 q)

-- either

either-free : (x y : ℕ) → x ≡ none → either x y ≡ y
either-free x y e = cond-true (eqb x 0) y x (eq-eqb x 0 e)

pub either-bound : (x y : ℕ) → x ≢ none → either x y ≡ x
either-bound x y n = cond-false (eqb x 0) y x (ne_eqb x 0 n)

pub either-none : (x : ℕ) → either x none ≡ x
either-none x = ⊎_elim (λ e. either-free x 0 e ∙ sym e) (either-bound x 0) (cases_eq x 0)

-- a value that agrees with the second is it, or gives way to it
pub either-second : (x y : ℕ) → agree x y ≡ true → y ≢ none → either x y ≡ y
either-second x y a n =
    ⊎_elim (either-free x y)
    (λ m. either-bound x y m ∙ eqb-true x y (sym (agree-values x y m n) ∙ a)) (cases_eq x 0)

-- compatible

pub agree_from_compatible : (r s : Row) → compatible r s ≡ true → (v : ℕ)
    → agree (value r v) (value s v) ≡ true
agree_from_compatible [] s c v = refl
agree_from_compatible (p ∷ r) [] c v = absurd (both_ways false refl c)
agree_from_compatible (p ∷ r) (q ∷ s) c zero = (and_parts (agree p q) (compatible r s) c).0
agree_from_compatible (p ∷ r) (q ∷ s) c (suc v) =
    agree_from_compatible r s (and_parts (agree p q) (compatible r s) c).1 v

pub compatible_from_values : (r s : Row) → length r ≡ length s
    → ((v : ℕ) → agree (value r v) (value s v) ≡ true) → compatible r s ≡ true
compatible_from_values [] [] long h = refl
compatible_from_values [] (q ∷ s) long h = absurd (omega arith)
compatible_from_values (p ∷ r) [] long h = absurd (omega arith)
compatible_from_values (p ∷ r) (q ∷ s) long h =
    and_from (agree p q) (compatible r s) (h 0)
    (compatible_from_values r s (omega arith) (λ v. h (suc v)))

-- merge

pub value-merge : (r s : Row) (v : ℕ) → value (merge r s) v ≡ either (value r v) (value s v)
value-merge [] s v = refl
value-merge (p ∷ r) [] v = sym (either-none (value (p ∷ r) v))
value-merge (p ∷ r) (q ∷ s) zero = refl
value-merge (p ∷ r) (q ∷ s) (suc v) = value-merge r s v

pub length-merge : (r s : Row) → length r ≡ length s → length (merge r s) ≡ length r
length-merge [] s long = sym long
length-merge (p ∷ r) [] long = refl
length-merge (p ∷ r) (q ∷ s) long = ap suc (length-merge r s (omega arith))
