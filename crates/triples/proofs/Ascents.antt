-- Where a list ascends, and where it falls first. Assumes nothing.
use Rattle.std.proofs.Common.{◌≡◌, ℕ, suc, ◌+◌, ◌-◌, ◌<◌, true, false, List, ◌∷◌, length, get_or, Ordering}
use Rattle.std.proofs.Common.{Less, Greater, Equal}
use Rattle.std.proofs.Common.{Option, Some, None, MatchOption, refl, sym, ap, ◌∙◌, subst, arith}
use Rattle.std.proofs.lemmas.List.{get_or_default}
use Rattle.std.proofs.lemmas.Slice.Zip.{get_or-zip, length-zip}
use Rattle.std.specs.List.{zip, AllWithin, HoldsAt}
use Rattle.std.specs.Option.{option_map}
use Rattle.std.proofs.lemmas.Bool.{false≢true}
use Rattle.std.specs.Ordering.{is_ge}
use Rattle.triples.specs.Ascent.{Ascends, Falls}

less_is : (o : Ordering) → is_ge o ≡ false → o ≡ Less
less_is Less h = refl
less_is Equal h = cc
less_is Greater h = cc

less_not : (o : Ordering) → is_ge o ≡ true → o ≡ Less → ⊥
less_not o h e = false≢true (sym (ap is_ge e) ∙ h)

module _ {X : Type 0} (cmp : X → X → Ordering) (x : X) (rest : List X) where
  -- each element beside the next
  abbrev pub neighbours : List (X × X)
  neighbours = zip (x ∷ rest) rest

  -- the first of two neighbours is below the second, or is not
  abbrev pub Rises : X × X → Type 0
  Rises p = is_ge (cmp p.0 p.1) ≡ false

  abbrev pub Sinks : X × X → Type 0
  Sinks p = is_ge (cmp p.0 p.1) ≡ true

  length_neighbours : length neighbours ≡ length rest
  length_neighbours = let len = length-zip (x ∷ rest) rest in omega (arith, len)

  at_neighbours : (P : X × X → Type 0) (k : ℕ) (d : X) → k < length rest → HoldsAt P neighbours k
      → P (get_or (x ∷ rest) k d, get_or (x ∷ rest) (k + 1) d)
  at_neighbours P k d h f =
      let next : suc k ≡ k + 1 = omega arith in
      subst (λ j. P (get_or (x ∷ rest) k d, get_or (x ∷ rest) j d)) next
      (subst P (get_or-zip (x ∷ rest) rest k (d, d) (omega (arith, h)) h) (f (d, d)))

  falls_at : (i : ℕ) → i < length rest → HoldsAt Sinks neighbours i
      → Falls (λ a b o. o ≡ cmp a b) (x ∷ rest) (i + 1)
  falls_at i h f =
      let back : i + 1 - 1 ≡ i = omega arith in
      record {
        later = omega arith;
        inside = omega (arith, h);
        found = cmp (get_or (x ∷ rest) i x) (get_or (x ∷ rest) (i + 1) x);
        compared = λ e.
            ap (λ y. cmp y (get_or (x ∷ rest) (i + 1) x)) (get_or_default (x ∷ rest) i x e (omega (arith, h)))
            ∙ ap (cmp (get_or (x ∷ rest) i e)) (get_or_default (x ∷ rest) (i + 1) x e (omega (arith, h)))
            ∙ ap (λ j. cmp (get_or (x ∷ rest) j e) (get_or (x ∷ rest) (i + 1) e)) (sym back);
        unless = less_not _ (at_neighbours Sinks i x h f);
      }

  -- the list ascends where there is no place, and falls at the place otherwise
  abbrev pub Judged : Option ℕ → Type 0
  Judged r =
      MatchOption r (Ascends (λ a b o. o ≡ cmp a b) (x ∷ rest)) (Falls (λ a b o. o ≡ cmp a b) (x ∷ rest))

  pub ascent_found : (r s : Option ℕ) → s ≡ option_map (λ i. i + 1) r
      → MatchOption r (AllWithin Rises neighbours 0 (length neighbours))
      (λ i. (i < length neighbours) × HoldsAt Sinks neighbours i × AllWithin Rises neighbours 0 i)
      → Judged s
  ascent_found None s e f =
      subst Judged (sym e)
      (λ k d h. let len = length_neighbours in
      sym (less_is _ (at_neighbours Rises k d (omega (arith, h))
      (λ p. f k p (omega arith) (omega (arith, h, len))))))
  ascent_found (Some i) s e f =
      subst Judged (sym e)
      (falls_at i (let inside = f.0 in let len = length_neighbours in omega (arith, inside, len)) f.1)
