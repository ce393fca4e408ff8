-- Laws of lists by the operation: All, flat_map, filter, the weight of a list, which is the total of a number
-- given to each of its elements, counts, list_all, cond, and drop. Assumes nothing.
use Rattle.std.proofs.Common.{◌≤◌, ◌≡◌, ℕ, ◌+◌, Bool, true, false, cond, ◌&&◌, List, [], ◌∷◌, ◌++◌, map, refl}
use Rattle.std.proofs.Common.{sym, ap, ◌∙◌, subst, ⊎_elim, arith, count_by, ◌<◌, suc, length, get_or, drop}
use Rattle.std.proofs.Math.Seq.{drop-cons}
use Rattle.std.proofs.lemmas.Bool.{cases_Bool, cond-true, cond-false, and_parts}
use Rattle.std.proofs.lemmas.Grind.{flat_map-append}
use Rattle.std.proofs.lemmas.List.Elements.{filter-append}
use Rattle.std.proofs.lemmas.List.Sums.{sum_by-cons, sum_by-append}
use Rattle.std.specs.List.{filter, flat_map, list_all, AllByRecursion}
use Rattle.query.specs.Lawful.{total}

-- filter, at a first element

module _ {A : Type 0} (p : A → Bool) (x : A) (xs : List A) where
  pub filter-yes : p x ≡ true → filter p (x ∷ xs) ≡ x ∷ filter p xs
  filter-yes t = cond-true (p x) (x ∷ filter p xs) (filter p xs) t

  pub filter-no : p x ≡ false → filter p (x ∷ xs) ≡ filter p xs
  filter-no f = cond-false (p x) (x ∷ filter p xs) (filter p xs) f

-- All

module _ {A : Type 0} where
  pub all-append : (P : A → Type 0) (xs ys : List A) → AllByRecursion P xs → AllByRecursion P ys
      → AllByRecursion P (xs ++ ys)
  all-append P [] ys h k = k
  all-append P (x ∷ xs) ys h k = (h.0, all-append P xs ys h.1 k)

  pub all-weaker : (P Q : A → Type 0) → ((x : A) → P x → Q x) → (xs : List A) → AllByRecursion P xs
      → AllByRecursion Q xs
  all-weaker P Q to [] h = tt
  all-weaker P Q to (x ∷ xs) h = (to x h.0, all-weaker P Q to xs h.1)

  pub all-every : (P : A → Type 0) → ((x : A) → P x) → (xs : List A) → AllByRecursion P xs
  all-every P h [] = tt
  all-every P h (x ∷ xs) = (h x, all-every P h xs)

  pub all-filter : (P : A → Type 0) (p : A → Bool) (xs : List A) → AllByRecursion P xs
      → AllByRecursion P (filter p xs)
  all-filter P p [] h = tt
  all-filter P p (x ∷ xs) h =
      ⊎_elim
      (λ t. subst (AllByRecursion P) (sym (filter-yes p x xs t)) (h.0, all-filter P p xs h.1))
      (λ f. subst (AllByRecursion P) (sym (filter-no p x xs f)) (all-filter P p xs h.1))
      (cases_Bool (p x))

  pub all-map : {B : Type 0} (P : A → Type 0) (f : B → A) (xs : List B) → AllByRecursion (λ x. P (f x)) xs
      → AllByRecursion P (map f xs)
  all-map P f [] h = tt
  all-map P f (x ∷ xs) h = (h.0, all-map P f xs h.1)

  pub all-flat_map : {B : Type 0} (P : A → Type 0) (f : B → List A) (xs : List B)
      → AllByRecursion (λ x. AllByRecursion P (f x)) xs → AllByRecursion P (flat_map f xs)
  all-flat_map P f [] h = tt
  all-flat_map P f (x ∷ xs) h = all-append P (f x) (flat_map f xs) h.0 (all-flat_map P f xs h.1)

-- flat_map

module _ {A B : Type 0} where
  -- f and g agree on the elements
  pub flat_map-same : (f g : A → List B) (xs : List A) → AllByRecursion (λ x. f x ≡ g x) xs
      → flat_map f xs ≡ flat_map g xs
  flat_map-same f g [] h = refl
  flat_map-same f g (x ∷ xs) h =
      ap (λ ys. ys ++ flat_map f xs) h.0 ∙ ap (λ ys. g x ++ ys) (flat_map-same f g xs h.1)

  pub flat_map-flat_map : {C : Type 0} (f : B → List C) (g : A → List B) (xs : List A)
      → flat_map f (flat_map g xs) ≡ flat_map (λ x. flat_map f (g x)) xs
  flat_map-flat_map f g [] = refl
  flat_map-flat_map f g (x ∷ xs) =
      flat_map-append f (g x) (flat_map g xs)
      ∙ ap (λ ys. flat_map f (g x) ++ ys) (flat_map-flat_map f g xs)

  -- the elements that do not pass a test give nothing
  pub flat_map-filter : (f : A → List B) (p : A → Bool) (xs : List A)
      → flat_map f (filter p xs) ≡ flat_map (λ x. cond (p x) (f x) []) xs
  flat_map-filter f p [] = refl
  flat_map-filter f p (x ∷ xs) =
      ⊎_elim
      (λ t. ap (flat_map f) (filter-yes p x xs t) ∙ ap (λ ys. f x ++ ys) (flat_map-filter f p xs)
      ∙ ap (λ ys. ys ++ flat_map (λ y. cond (p y) (f y) []) xs) (sym (cond-true (p x) (f x) [] t)))
      (λ n. ap (flat_map f) (filter-no p x xs n) ∙ flat_map-filter f p xs
      ∙ ap (λ ys. ys ++ flat_map (λ y. cond (p y) (f y) []) xs) (sym (cond-false (p x) (f x) [] n)))
      (cases_Bool (p x))

-- filter

module _ {A : Type 0} where
  pub filter-flat_map : {B : Type 0} (p : A → Bool) (f : B → List A) (xs : List B)
      → filter p (flat_map f xs) ≡ flat_map (λ x. filter p (f x)) xs
  filter-flat_map p f [] = refl
  filter-flat_map p f (x ∷ xs) =
      filter-append p (f x) (flat_map f xs) ∙ ap (λ ys. filter p (f x) ++ ys) (filter-flat_map p f xs)

  -- the same where the tests agree on the elements
  pub filter-same : (p q : A → Bool) (xs : List A) → AllByRecursion (λ x. p x ≡ q x) xs
      → filter p xs ≡ filter q xs
  filter-same p q [] h = refl
  filter-same p q (x ∷ xs) h =
      ap (λ b. cond b (x ∷ filter p xs) (filter p xs)) h.0
      ∙ ap (λ ys. cond (q x) (x ∷ ys) ys) (filter-same p q xs h.1)

  pub filter-like : (p q : A → Bool) → ((x : A) → p x ≡ q x) → (xs : List A) → filter p xs ≡ filter q xs
  filter-like p q e xs = filter-same p q xs (all-every (λ x. p x ≡ q x) e xs)

  -- two tests, one after the other
  pub filter-filter : (p q : A → Bool) (xs : List A) → filter p (filter q xs) ≡ filter (λ x. q x && p x) xs
  filter-filter p q [] = refl
  filter-filter p q (x ∷ xs) =
      ⊎_elim
      (λ t. ap (filter p) (filter-yes q x xs t)
      ∙ ap (λ ys. cond (p x) (x ∷ ys) ys) (filter-filter p q xs)
      ∙ ap (λ b. cond (b && p x) (x ∷ filter (λ y. q y && p y) xs) (filter (λ y. q y && p y) xs)) (sym t))
      (λ n. ap (filter p) (filter-no q x xs n)
      ∙ filter-filter p q xs
      ∙ ap (λ b. cond (b && p x) (x ∷ filter (λ y. q y && p y) xs) (filter (λ y. q y && p y) xs)) (sym n))
      (cases_Bool (q x))

  pub filter-none : (p : A → Bool) (xs : List A) → AllByRecursion (λ x. p x ≡ false) xs → filter p xs ≡ []
  filter-none p [] h = refl
  filter-none p (x ∷ xs) h = filter-no p x xs h.0 ∙ filter-none p xs h.1

  pub filter-all : (p : A → Bool) (xs : List A) → AllByRecursion (λ x. p x ≡ true) xs → filter p xs ≡ xs
  filter-all p [] h = refl
  filter-all p (x ∷ xs) h = filter-yes p x xs h.0 ∙ ap (λ ys. x ∷ ys) (filter-all p xs h.1)

  pub filter-true : (xs : List A) → filter (λ _. true) xs ≡ xs
  filter-true xs = filter-all (λ _. true) xs (all-every (λ _. true ≡ true) (λ _. refl) xs)

-- weight: the total of a number given to each element

module _ {A : Type 0} (w : A → ℕ) where
  pub total-append : (xs ys : List A) → total w (xs ++ ys) ≡ total w xs + total w ys
  total-append [] ys = omega arith
  total-append (x ∷ xs) ys = omega (arith, total-append xs ys)

  pub total-flat_map : {B : Type 0} (f : B → List A) (xs : List B)
      → total w (flat_map f xs) ≡ total (λ x. total w (f x)) xs
  total-flat_map f [] = refl
  total-flat_map f (x ∷ xs) = omega (arith, total-append (f x) (flat_map f xs), total-flat_map f xs)

  pub total-map : {B : Type 0} (f : B → A) (xs : List B) → total w (map f xs) ≡ total (λ x. w (f x)) xs
  total-map f [] = refl
  total-map f (x ∷ xs) = ap (λ n. w (f x) + n) (total-map f xs)

  pub total-filter : (p : A → Bool) (xs : List A) → total w (filter p xs) ≡ total (λ x. cond (p x) (w x) 0) xs
  total-filter p [] = refl
  total-filter p (x ∷ xs) =
      ⊎_elim
      (λ t. let whole = cond-true (p x) (w x) 0 t in
      omega (arith, ap (total w) (filter-yes p x xs t), total-filter p xs, whole))
      (λ n. let none = cond-false (p x) (w x) 0 n in
      omega (arith, ap (total w) (filter-no p x xs n), total-filter p xs, none))
      (cases_Bool (p x))

  -- the same where the numbers agree on the elements
  pub total-same : (v : A → ℕ) (xs : List A) → AllByRecursion (λ x. w x ≡ v x) xs → total w xs ≡ total v xs
  total-same v [] h = refl
  total-same v (x ∷ xs) h = omega (arith, h.0, total-same v xs h.1)

  pub total-like : (v : A → ℕ) → ((x : A) → w x ≡ v x) → (xs : List A) → total w xs ≡ total v xs
  total-like v e xs = total-same v xs (all-every (λ x. w x ≡ v x) e xs)

  pub total-plus : (v : A → ℕ) (xs : List A) → total (λ x. w x + v x) xs ≡ total w xs + total v xs
  total-plus v [] = refl
  total-plus v (x ∷ xs) = omega (arith, total-plus v xs)

  total-zero : (xs : List A) → AllByRecursion (λ x. w x ≡ 0) xs → total w xs ≡ 0
  total-zero [] h = refl
  total-zero (x ∷ xs) h = omega (arith, h.0, total-zero xs h.1)

-- count_by

module _ {A : Type 0} (p : A → Bool) where
  pub count_by-yes : (x : A) (xs : List A) → p x ≡ true → count_by p (x ∷ xs) ≡ 1 + count_by p xs
  count_by-yes x xs t =
      omega (arith, sum_by-cons (λ y. cond (p y) 1 0) x xs, cond-true {A = ℕ} (p x) 1 0 t)

  pub count_by-no : (x : A) (xs : List A) → p x ≡ false → count_by p (x ∷ xs) ≡ count_by p xs
  count_by-no x xs f =
      omega (arith, sum_by-cons (λ y. cond (p y) 1 0) x xs, cond-false {A = ℕ} (p x) 1 0 f)

  pub count_by-append : (xs ys : List A) → count_by p (xs ++ ys) ≡ count_by p xs + count_by p ys
  count_by-append xs ys = sum_by-append (λ x. cond (p x) 1 0) xs ys

  -- how many elements pass is a weight
  pub count_by-total : (xs : List A) → count_by p xs ≡ total (λ x. cond (p x) 1 0) xs
  count_by-total [] = refl
  count_by-total (x ∷ xs) =
      sum_by-cons (λ y. cond (p y) 1 0) x xs ∙ ap (λ n. cond (p x) 1 0 + n) (count_by-total xs)

  pub count_by-none : (xs : List A) → AllByRecursion (λ x. p x ≡ false) xs → count_by p xs ≡ 0
  count_by-none [] h = refl
  count_by-none (x ∷ xs) h = count_by-no x xs h.0 ∙ count_by-none xs h.1

pub count_by-map : {A B : Type 0} (p : A → Bool) (f : B → A) (xs : List B)
    → count_by p (map f xs) ≡ count_by (λ x. p (f x)) xs
count_by-map p f xs =
    count_by-total p (map f xs) ∙ total-map (λ x. cond (p x) 1 0) f xs
    ∙ sym (count_by-total (λ x. p (f x)) xs)

pub count_by-weaker : {A : Type 0} (p q : A → Bool) (xs : List A)
    → AllByRecursion (λ x. p x ≡ true → q x ≡ true) xs → count_by p xs ≤ count_by q xs
count_by-weaker p q [] h = omega arith
count_by-weaker p q (x ∷ xs) h =
    let rest = count_by-weaker p q xs h.1 in
    ⊎_elim
    (λ t. omega (arith, rest, count_by-yes p x xs t, count_by-yes q x xs (h.0 t)))
    (λ f. let less = count_by-no p x xs f in
    ⊎_elim (λ w. omega (arith, rest, less, count_by-yes q x xs w))
    (λ w. omega (arith, rest, less, count_by-no q x xs w)) (cases_Bool (q x)))
    (cases_Bool (p x))

-- list_all

pub all_from_list_all : {A : Type 0} (P : A → Type 0) (p : A → Bool) → ((x : A) → p x ≡ true → P x)
    → (xs : List A) → list_all p xs ≡ true → AllByRecursion P xs
all_from_list_all P p to [] h = tt
all_from_list_all P p to (x ∷ xs) h =
    let (first, rest) = and_parts (p x) (list_all p xs) h in (to x first, all_from_list_all P p to xs rest)

-- cond

pub cond-same : {A : Type 0} (b : Bool) (x : A) → cond b x x ≡ x
cond-same true x = refl
cond-same false x = refl

pub total-cond : {A : Type 0} (b : Bool) (w : A → ℕ) (xs : List A)
    → total (λ x. cond b (w x) 0) xs ≡ cond b (total w xs) 0
total-cond true w xs = refl
total-cond false w xs = total-zero (λ _. 0) xs (all-every (λ _. ◌≡◌ {A = ℕ} 0 0) (λ _. refl) xs)

-- drop

pub drop-next : {A : Type 0} (xs : List A) (k : ℕ) (d : A) → k < length xs
    → drop k xs ≡ get_or xs k d ∷ drop (k + 1) xs
drop-next xs k d low =
    let next : suc k ≡ k + 1 = omega arith in
    drop-cons xs k d low ∙ ap (λ j. get_or xs k d ∷ drop j xs) next
