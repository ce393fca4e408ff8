-- Laws of what the words on an answer name: the parts reached, and a row with the values of the first
-- parts alone. Assumes nothing.
use Rattle.std.proofs.Common.{refl, ◌≡◌, ℕ, ◌+◌, ◌<◌, ◌≤◌, true, false, cond, ◌⊎◌, zero, suc, length, Some}
use Rattle.std.proofs.Common.{None, Option, sym, ap, ◌∙◌, inl, inr, ⊎_elim, arith}
use Rattle.std.proofs.lemmas.Bool.{both_ways, cases_Bool, cases_lt, cond-true, cond-false, leb-true, le-leb}
use Rattle.std.proofs.lemmas.Bool.{lt-leb}
use Rattle.std.proofs.lemmas.List.FromFn.{length-map-range_with_len}
use Rattle.query.specs.Limits.{variables}
use Rattle.query.specs.Parts.{Group}
use Rattle.filter.specs.Rows.{Row, none, value}
use Rattle.algebra.specs.Order.{first_part}
use Rattle.algebra.specs.Words.{reached, upto}
use Rattle.algebra.proofs.Rows.{value-map, value-past, equal_past, row_from_values}

-- reached

pub reached-low : (p k : ℕ) (o : Option ℕ) → o ≡ Some k → k ≤ p → reached p o ≡ true
reached-low p k o e low = ap (reached p) e ∙ le-leb k p low

pub reached-more : (p : ℕ) (o : Option ℕ) → reached p o ≡ true → reached (p + 1) o ≡ true
reached-more p None h = h
reached-more p (Some k) h = let low = leb-true k p h in le-leb k (p + 1) (omega arith)

pub reached-high : (p k : ℕ) (o : Option ℕ) → o ≡ Some k → p < k → reached p o ≡ false
reached-high p k o e high = ap (reached p) e ∙ lt-leb k p high

-- what is reached by one part more is reached before, or belongs to that part
pub reached_or_own : (p : ℕ) (o : Option ℕ) → reached (p + 1) o ≡ true
    → (reached p o ≡ true) ⊎ (o ≡ Some (p + 1))
reached_or_own p None h = inl h
reached_or_own p (Some k) h =
    let low = leb-true k (p + 1) h in
    ⊎_elim (λ l. inl (le-leb k p (omega arith))) (λ l. inr (ap Some (omega arith))) (cases_lt k (p + 1))

-- and what is not reached before, and does not belong to that part, is not
pub reached-unowned : (p : ℕ) (o : Option ℕ) → reached p o ≡ false → (o ≡ Some (p + 1) → ⊥)
    → reached (p + 1) o ≡ false
reached-unowned p o f other =
    ⊎_elim (λ t. ⊎_elim (λ before. absurd (both_ways (reached p o) f before)) (λ own. absurd (other own))
    (reached_or_own p o t))
    (λ n. n) (cases_Bool (reached (p + 1) o))

pub reached-fewer : (p : ℕ) (o : Option ℕ) → reached (p + 1) o ≡ false → reached p o ≡ false
reached-fewer p o f =
    ⊎_elim (λ t. absurd (both_ways (reached (p + 1) o) f (reached-more p o t))) (λ n. n)
    (cases_Bool (reached p o))

pub reached-first : (o : Option ℕ) → (o ≡ Some 0 → ⊥) → reached 0 o ≡ false
reached-first None other = refl
reached-first (Some zero) other = absurd (other refl)
reached-first (Some (suc k)) other = reached-high 0 (suc k) (Some (suc k)) refl (omega arith)

-- upto

module _ (g : Group) (p : ℕ) (r : Row) where
  pub length-upto : length (upto g p r) ≡ variables
  length-upto =
      length-map-range_with_len (λ v. cond (reached p (first_part g v)) (value r v) none) 0 variables

  value-upto : (v : ℕ) → v < variables
      → value (upto g p r) v ≡ cond (reached p (first_part g v)) (value r v) none
  value-upto v = value-map (λ w. cond (reached p (first_part g w)) (value r w) none) variables v

  pub value-upto_past : (v : ℕ) → variables ≤ v → value (upto g p r) v ≡ none
  value-upto_past v high = value-past (upto g p r) v (omega (arith, length-upto, high))

  pub value-upto_reached : (v : ℕ) → length r ≡ variables → reached p (first_part g v) ≡ true
      → value (upto g p r) v ≡ value r v
  value-upto_reached v long h =
      ⊎_elim (λ low. value-upto v low ∙ cond-true (reached p (first_part g v)) (value r v) none h)
      (equal_past (upto g p r) r variables length-upto long v)
      (cases_lt v variables)

  -- the value of a variable of the part k
  pub value-upto_part : (v k : ℕ) → length r ≡ variables → first_part g v ≡ Some k → k ≤ p
      → value (upto g p r) v ≡ value r v
  value-upto_part v k long own low = value-upto_reached v long (reached-low p k (first_part g v) own low)

  pub value-upto_later : (v : ℕ) → reached p (first_part g v) ≡ false → value (upto g p r) v ≡ none
  value-upto_later v h =
      ⊎_elim (λ low. value-upto v low ∙ cond-false (reached p (first_part g v)) (value r v) none h)
      (value-upto_past v) (cases_lt v variables)

  -- it is the row of that length that has r's values where they are reached, and none elsewhere
  pub upto_from_values : (s : Row) → length r ≡ variables → length s ≡ variables
      → ((v : ℕ) → reached p (first_part g v) ≡ true → value r v ≡ value s v)
      → ((v : ℕ) → reached p (first_part g v) ≡ false → value s v ≡ none) → upto g p r ≡ s
  upto_from_values s long too same later =
      row_from_values (upto g p r) s (length-upto ∙ sym too)
      (λ v. ⊎_elim (λ t. value-upto_reached v long t ∙ same v t) (λ f. value-upto_later v f ∙ sym (later v f))
      (cases_Bool (reached p (first_part g v))))
