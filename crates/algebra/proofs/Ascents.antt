-- Laws of lists that ascend: ++, filter, map, flat_map, ranges, and how often an element stands in one.
-- Assumes nothing.
use Rattle.std.proofs.Common.{◌≡◌, ℕ, zero, suc, ◌+◌, ◌<◌, ◌≤◌, Bool, true, false, List, [], ◌∷◌, ◌++◌, map}
use Rattle.std.proofs.Common.{refl, sym, ap, ◌∙◌, subst, ⊎_elim, arith, count_by, not, ◌&&◌, ◌≢◌, eqb}
use Rattle.std.proofs.Math.Bool.{and-true}
use Rattle.std.proofs.lemmas.Bool.{cases_Bool, cases_eq, false_from_ne_true, and_right, eq-eqb, ne_eqb}
use Rattle.std.specs.List.{filter, flat_map, range_with_len, AllByRecursion}
use Rattle.algebra.specs.Order.{Ascending}
use Rattle.algebra.proofs.Lists.{filter-yes, filter-no, all-append, all-weaker, all-filter, all-map}
use Rattle.algebra.proofs.Lists.{count_by-yes, count_by-no, count_by-none, filter-like, filter-filter}
use Rattle.algebra.proofs.Lists.{filter-all}
use Rattle.algebra.proofs.Ranges.{all-range}

module _ {A : Type 0} (R : A → A → Type 0) where
  -- ++

  pub ascending-append : (xs ys : List A) → Ascending R xs → Ascending R ys
      → AllByRecursion (λ x. AllByRecursion (R x) ys) xs → Ascending R (xs ++ ys)
  ascending-append [] ys h k across = k
  ascending-append (x ∷ xs) ys h k across =
      (all-append (R x) xs ys h.0 across.0, ascending-append xs ys h.1 k across.1)

  -- filter

  pub ascending-filter : (p : A → Bool) (xs : List A) → Ascending R xs → Ascending R (filter p xs)
  ascending-filter p [] h = tt
  ascending-filter p (x ∷ xs) h =
      ⊎_elim
      (λ t. subst (Ascending R) (sym (filter-yes p x xs t))
      (all-filter (R x) p xs h.0, ascending-filter p xs h.1))
      (λ f. subst (Ascending R) (sym (filter-no p x xs f)) (ascending-filter p xs h.1))
      (cases_Bool (p x))

  -- another order, which holds of two elements with P where R does

  all-later : (P : A → Type 0) (S : A → A → Type 0) (x : A) → ((y : A) → P y → R x y → S x y) → (xs : List A)
      → AllByRecursion P xs → AllByRecursion (R x) xs → AllByRecursion (S x) xs
  all-later P S x to [] h k = tt
  all-later P S x to (y ∷ ys) h k = (to y h.0 k.0, all-later P S x to ys h.1 k.1)

  pub ascending-weaker : (P : A → Type 0) (S : A → A → Type 0)
      → ((x y : A) → P x → P y → R x y → S x y) → (xs : List A) → AllByRecursion P xs
      → Ascending R xs → Ascending S xs
  ascending-weaker P S to [] h k = tt
  ascending-weaker P S to (x ∷ xs) h k =
      (all-later P S x (λ y. to x y h.0) xs h.1 k.0, ascending-weaker P S to xs h.1 k.1)

  -- map

  pub ascending-map : {B : Type 0} (f : B → A) (xs : List B) → Ascending (λ x y. R (f x) (f y)) xs
      → Ascending R (map f xs)
  ascending-map f [] h = tt
  ascending-map f (x ∷ xs) h = (all-map (R (f x)) f xs h.0, ascending-map f xs h.1)

-- flat_map: Q tells what comes of an element; of two of which one is before the other, all that comes of the
-- one is before all that comes of the other

module _ {A B : Type 0} (P : A → Type 0) (R : A → A → Type 0) (S : B → B → Type 0) (Q : A → B → Type 0)
    (f : A → List B) (gives : (x : A) → P x → AllByRecursion (Q x) (f x))
    (steps : (x y : A) → P x → P y → R x y → (b c : B) → Q x b → Q y c → S b c) where
  later-flat_map : (x : A) → P x → (b : B) → Q x b → (xs : List A) → AllByRecursion P xs
      → AllByRecursion (R x) xs → AllByRecursion (S b) (flat_map f xs)
  later-flat_map x p b q [] h k = tt
  later-flat_map x p b q (y ∷ ys) h k =
      all-append (S b) (f y) (flat_map f ys)
      (all-weaker (Q y) (S b) (λ c. steps x y p h.0 k.0 b c q) (f y) (gives y h.0))
      (later-flat_map x p b q ys h.1 k.1)

  pub ascending-flat_map : ((x : A) → P x → Ascending S (f x)) → (xs : List A) → AllByRecursion P xs
      → Ascending R xs → Ascending S (flat_map f xs)
  ascending-flat_map each [] h k = tt
  ascending-flat_map each (x ∷ xs) h k =
      ascending-append S (f x) (flat_map f xs) (each x h.0) (ascending-flat_map each xs h.1 k.1)
      (all-weaker (Q x) (λ b. AllByRecursion (S b) (flat_map f xs))
      (λ b q. later-flat_map x h.0 b q xs h.1 k.0) (f x) (gives x h.0))

-- ranges

pub ascending-range : (a n : ℕ) → Ascending (λ x y. x < y) (range_with_len a n)
ascending-range a zero = tt
ascending-range a (suc n) = (
  all-weaker (λ x. (a + 1 ≤ x) × (x < (a + 1) + n)) (λ x. a < x) (λ x h. omega (arith, h.0))
      (range_with_len (a + 1) n) (all-range (a + 1) n),
  ascending-range (a + 1) n,
)

-- what ascends, and passes p, begins with v: what passes a test q that differs at v alone, and there fails,
-- is the rest
pub filter-rest : (p q : ℕ → Bool) (xs : List ℕ) (v : ℕ) (vs : List ℕ) → Ascending (λ x y. x < y) xs
    → filter p xs ≡ v ∷ vs → ((w : ℕ) → w ≢ v → p w ≡ q w) → q v ≡ false → filter q xs ≡ vs
filter-rest p q xs v vs up e same off =
    let other = λ (w : ℕ). not (eqb w v) in
    let rest = subst (Ascending (λ x y. x < y)) e (ascending-filter (λ x y. x < y) p xs up) in
    filter-like q (λ w. p w && other w)
    (λ w. ⊎_elim
    (λ is. ap q is ∙ off ∙ sym (and_right (p w) (other w) (ap not (eq-eqb w v is))))
    (λ ne. sym (same w ne) ∙ sym (and-true (p w)) ∙ ap (λ b. p w && b) (sym (ap not (ne_eqb w v ne))))
    (cases_eq w v))
    xs
    ∙ sym (filter-filter other p xs)
    ∙ ap (filter other) e
    ∙ filter-no other v vs (ap not (eq-eqb v v refl))
    ∙ filter-all other vs (all-weaker (λ w. v < w) (λ w. other w ≡ true)
    (λ w l. ap not (ne_eqb w v (λ z. omega (arith, l, z)))) vs rest.0)

-- how often an element stands in a list that ascends in an order in which nothing is before itself

module _ {A : Type 0} (R : A → A → Type 0) (same : A → A → Bool)
    (equal : (x y : A) → same x y ≡ true → x ≡ y) (never : (x : A) → R x x → ⊥) (a : A) where
  pub count_by-ascending : (xs : List A) → Ascending R xs → count_by (same a) xs ≤ 1
  count_by-ascending [] h = omega arith
  count_by-ascending (x ∷ xs) h =
      ⊎_elim
      (λ t. let later = count_by-none (same a) xs (all-weaker (R x) (λ y. same a y ≡ false)
      (λ y l. false_from_ne_true (same a y)
      (λ w. never y (subst (λ z. R z y) (sym (equal a x t) ∙ equal a y w) l)))
      xs h.0) in
      omega (arith, count_by-yes (same a) x xs t, later))
      (λ f. omega (arith, count_by-no (same a) x xs f, count_by-ascending xs h.1))
      (cases_Bool (same a x))
