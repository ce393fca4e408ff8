-- Reading so many items one by one: what is left gives the answer. Assumes nothing.
--     prefixed xs m     what m says, with xs before what it took
use Rattle.std.proofs.Common.{◌≡◌, ℕ, zero, suc, List, [], ◌∷◌, ◌++◌, sym, refl, ap, ◌∙◌}
use Rattle.std.proofs.lemmas.List.{append-nil, append_assoc}
use Rattle.refusal.specs.declared.refusal.Refusal.{Refusal}
use Rattle.query.specs.Readers.{Read, took, refused, Reader, next, one, times, count, series}

-- what m says, with xs before what it took
abbrev pub prefixed : {A : Type 0} → List A → Read (List A) → Read (List A)
prefixed xs m = next m (λ ys at bs. took (xs ++ ys) at bs)

-- prefixed

prefixed_push : {A : Type 0} (xs : List A) (x : A) (m : Read (List A))
    → prefixed xs (next m (λ ys at bs. took (x ∷ ys) at bs)) ≡ prefixed (xs ++ x ∷ []) m
prefixed_push xs x (took ys at bs) = ap (λ l. took l at bs) (sym (append_assoc xs (x ∷ []) ys))
prefixed_push xs x (refused r q) = refl

-- times

module _ {S A : Type 0} (item : S → Reader A) (step : S → A → S) (whole : Read (List A)) (xs : List A)
    (s : S) (at : ℕ) (bs : List ℕ) where
  -- one item more was taken
  pub times_more : (n : ℕ) (x : A) (after : ℕ) (rest : List ℕ) → whole
      ≡ prefixed xs (times (suc n) item step s at bs)
      → item s at bs ≡ took x after rest → whole
      ≡ prefixed (xs ++ x ∷ []) (times n item step (step s x) after rest)
  times_more n x after rest e t =
      e ∙ ap (λ m. prefixed xs (next m (λ a k l. one (times n item step (step s a)) (◌∷◌ a) k l))) t
      ∙ prefixed_push xs x (times n item step (step s x) after rest)

  -- an item was refused
  pub times_refused : (n : ℕ) (r : Refusal) (q : ℕ) → whole ≡ prefixed xs (times (suc n) item step s at bs)
      → item s at bs ≡ refused r q → whole ≡ refused r q
  times_refused n r q e t = e
      ∙ ap (λ m. prefixed xs (next m (λ a k l. one (times n item step (step s a)) (◌∷◌ a) k l))) t

  -- no item is left
  pub times_done : whole ≡ prefixed xs (times zero item step s at bs) → whole ≡ took xs at bs
  times_done e = e ∙ ap (λ l. took l at bs) (append-nil xs)

-- series

module _ {S A : Type 0} (low high : ℕ) (item : S → Reader A) (step : S → A → S) (s : S) (at : ℕ)
    (bs : List ℕ) where
  pub series_took : (n mid : ℕ) (more : List ℕ) (xs : List A) (after : ℕ) (rest : List ℕ)
      → count low high at bs ≡ took n mid more
      → times n item step s mid more ≡ took xs after rest → series low high item step s at bs
      ≡ took xs after rest
  series_took n mid more xs after rest e t =
      ap (λ m. next m (λ k a l. one (times k item step s) (λ ys. ys) a l)) e
      ∙ ap (λ m. next m (λ ys a l. took ys a l)) t

  pub series_refused : (n mid : ℕ) (more : List ℕ) (r : Refusal) (q : ℕ) → count low high at bs
      ≡ took n mid more
      → times n item step s mid more ≡ refused r q → series low high item step s at bs ≡ refused r q
  series_refused n mid more r q e t =
      ap (λ m. next m (λ k a l. one (times k item step s) (λ ys. ys) a l)) e
      ∙ ap (λ m. next m (λ ys a l. took ys a l)) t
