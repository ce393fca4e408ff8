-- Elements of lists, by the operation that made the list. Assumes nothing.
--     Member x xs     x is an element of xs
use Rattle.std.proofs.Common.{map, ◌≡◌, ◌<◌, Bool, true, false, ◌||◌, ◌⊎◌, List, [], ◌∷◌, ◌++◌, count_by}
use Rattle.std.proofs.Common.{refl, sym, ap, ◌∙◌, subst, inl, inr, ⊎_elim, arith}
use Rattle.std.proofs.lemmas.Bool.{cases_Bool, or_left, or_right, both_ways}
use Rattle.std.specs.List.{filter, flat_map, list_any, AllByRecursion}
use Rattle.algebra.proofs.Lists.{filter-yes, filter-no, count_by-yes, count_by-no}

-- x is an element of the list
abbrev pub Member : {A : Type 0} → A → List A → Type 0
Member x [] = ⊥
Member x (y ∷ ys) = (x ≡ y) ⊎ Member x ys

-- a list without elements is the empty one
pub nil_from_members : {A : Type 0} (xs : List A) → ((x : A) → Member x xs → ⊥) → xs ≡ []
nil_from_members [] none = refl
nil_from_members (x ∷ xs) none = absurd (none x (inl refl))

-- All

pub has_from_member : {A : Type 0} (P : A → Type 0) (x : A) (xs : List A) → AllByRecursion P xs
    → Member x xs → P x
has_from_member P x [] h k = absurd k
has_from_member P x (y ∷ ys) h k = ⊎_elim (λ e. subst P (sym e) h.0) (has_from_member P x ys h.1) k

pub all_from_members : {A : Type 0} (P : A → Type 0) (xs : List A) → ((x : A) → Member x xs → P x)
    → AllByRecursion P xs
all_from_members P [] h = tt
all_from_members P (x ∷ xs) h = (h x (inl refl), all_from_members P xs (λ y i. h y (inr i)))

-- ++

module _ {A : Type 0} (x : A) where
  member-append_left : (xs ys : List A) → Member x xs → Member x (xs ++ ys)
  member-append_left [] ys h = absurd h
  member-append_left (z ∷ xs) ys h = ⊎_elim inl (λ i. inr (member-append_left xs ys i)) h

  member-append_right : (xs ys : List A) → Member x ys → Member x (xs ++ ys)
  member-append_right [] ys h = h
  member-append_right (z ∷ xs) ys h = inr (member-append_right xs ys h)

  member_from_append : (xs ys : List A) → Member x (xs ++ ys) → Member x xs ⊎ Member x ys
  member_from_append [] ys h = inr h
  member_from_append (z ∷ xs) ys h =
      ⊎_elim (λ e. inl (inl e)) (λ i. ⊎_elim (λ l. inl (inr l)) inr (member_from_append xs ys i)) h

-- filter

module _ {A : Type 0} (p : A → Bool) (x : A) where
  pub member-filter : (xs : List A) → p x ≡ true → Member x xs → Member x (filter p xs)
  member-filter [] t h = h
  member-filter (y ∷ ys) t h =
      ⊎_elim (λ e. subst (Member x) (sym (filter-yes p y ys (ap p (sym e) ∙ t))) (inl e))
      (λ i. ⊎_elim
      (λ w. subst (Member x) (sym (filter-yes p y ys w)) (inr (member-filter ys t i)))
      (λ w. subst (Member x) (sym (filter-no p y ys w)) (member-filter ys t i))
      (cases_Bool (p y)))
      h

  pub member_from_filter : (xs : List A) → Member x (filter p xs) → Member x xs × (p x ≡ true)
  member_from_filter [] h = absurd h
  member_from_filter (y ∷ ys) h =
      ⊎_elim
      (λ w. ⊎_elim (λ e. (inl e, ap p e ∙ w))
      (λ i. let k = member_from_filter ys i in (inr k.0, k.1))
      (subst (Member x) (filter-yes p y ys w) h))
      (λ w. let k = member_from_filter ys (subst (Member x) (filter-no p y ys w) h) in (inr k.0, k.1))
      (cases_Bool (p y))

-- map

module _ {A B : Type 0} (f : A → B) where
  pub member-map : (x : A) (xs : List A) → Member x xs → Member (f x) (map f xs)
  member-map x [] h = absurd h
  member-map x (y ∷ ys) h = ⊎_elim (λ e. inl (ap f e)) (λ i. inr (member-map x ys i)) h

  pub member_from_map : (y : B) (xs : List A) → Member y (map f xs) → (x : A) × Member x xs × (y ≡ f x)
  member_from_map y [] h = absurd h
  member_from_map y (x ∷ xs) h =
      ⊎_elim (λ e. (x, inl refl, e)) (λ i. let (z, k, e) = member_from_map y xs i in (z, inr k, e)) h

-- flat_map

module _ {A B : Type 0} (f : A → List B) (y : B) where
  pub member-flat_map : (x : A) (xs : List A) → Member x xs → Member y (f x) → Member y (flat_map f xs)
  member-flat_map x [] h k = absurd h
  member-flat_map x (z ∷ xs) h k =
      ⊎_elim (λ e. member-append_left y (f z) (flat_map f xs) (subst (λ w. Member y (f w)) e k))
      (λ i. member-append_right y (f z) (flat_map f xs) (member-flat_map x xs i k)) h

  pub member_from_flat_map : (xs : List A) → Member y (flat_map f xs) → (x : A) × Member x xs × Member y (f x)
  member_from_flat_map [] h = absurd h
  member_from_flat_map (z ∷ xs) h =
      ⊎_elim (λ l. (z, inl refl, l))
      (λ r. let (x, i, k) = member_from_flat_map xs r in (x, inr i, k))
      (member_from_append y (f z) (flat_map f xs) h)

-- list_any, count_by

module _ {A : Type 0} (p : A → Bool) where
  pub any_from_member : (x : A) (xs : List A) → Member x xs → p x ≡ true → list_any p xs ≡ true
  any_from_member x [] h t = absurd h
  any_from_member x (y ∷ ys) h t =
      ⊎_elim (λ e. or_left (p y) (list_any p ys) (ap p (sym e) ∙ t))
      (λ i. or_right (p y) (list_any p ys) (any_from_member x ys i t)) h

  pub member_from_any : (xs : List A) → list_any p xs ≡ true → (x : A) × Member x xs × (p x ≡ true)
  member_from_any [] h = absurd (both_ways false refl h)
  member_from_any (y ∷ ys) h =
      ⊎_elim (λ t. (y, inl refl, t))
      (λ f. let (x, i, t) = member_from_any ys (sym (ap (λ b. b || list_any p ys) f) ∙ h) in (x, inr i, t))
      (cases_Bool (p y))

  pub counted_from_member : (x : A) (xs : List A) → Member x xs → p x ≡ true → 0 < count_by p xs
  counted_from_member x [] h t = absurd h
  counted_from_member x (y ∷ ys) h t =
      ⊎_elim
      (λ w. omega (arith, count_by-yes p y ys w))
      (λ w. ⊎_elim (λ e. absurd (both_ways (p y) w (ap p (sym e) ∙ t)))
      (λ i. omega (arith, count_by-no p y ys w, counted_from_member x ys i t)) h)
      (cases_Bool (p y))

  pub member_from_counted : (xs : List A) → 0 < count_by p xs → (x : A) × Member x xs × (p x ≡ true)
  member_from_counted [] h = absurd (omega arith)
  member_from_counted (y ∷ ys) h =
      ⊎_elim (λ t. (y, inl refl, t))
      (λ f. let (x, i, t) = member_from_counted ys (omega (arith, h, count_by-no p y ys f)) in (x, inr i, t))
      (cases_Bool (p y))
