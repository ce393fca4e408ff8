-- Laws of being an element of a list. Assumes nothing.
--     Place triple xs u     a place of the list whose element stands for u
use Rattle.std.proofs.Common.{◌≡◌, ℕ, zero, suc, ◌<◌, true, List, [], ◌∷◌, map, length, get_or, subst, ⊎_elim}
use Rattle.std.proofs.Common.{arith}
use Rattle.std.proofs.lemmas.Bool.{or_cases, or_left, or_right}
use Rattle.triples.specs.declared.triple.Triple.{Triple}
use Rattle.triples.specs.Order.{same}
use Rattle.triples.specs.Meaning.{among}
use Rattle.triples.proofs.Lists.{first_of}
use Rattle.triples.proofs.Order.{same_itself, same_is}

pub record Place {X : Type 0} (triple : X → Triple) (xs : List X) (u : Triple) : Type 0 where
  pub at : ℕ
  pub element : X
  pub inside : at < length xs
  pub is : (d : X) → triple (get_or xs at d) ≡ u

module _ {X : Type 0} (triple : X → Triple) where
  pub among_place : (xs : List X) (u : Triple) → among (map triple xs) u ≡ true → Place triple xs u
  among_place [] u h = let z : ◌≡◌ {A = ℕ} 0 1 = cc in absurd (omega arith)
  among_place (x ∷ xs) u h =
      ⊎_elim
      (λ e. record { at = 0; element = x; inside = omega arith; is = λ d. same_is (triple x) u e })
      (λ r. let p = among_place xs u r in
      record { at = suc p.at; element = p.element; inside = omega (arith, p.inside); is = p.is })
      (or_cases (same (triple x) u) (among (map triple xs) u) h)

  pub place_among : (xs : List X) (i : ℕ) (d : X) → i < length xs
      → among (map triple xs) (triple (get_or xs i d)) ≡ true
  place_among [] i d h = absurd (omega (arith, h))
  place_among (x ∷ xs) zero d h =
      or_left (same (triple x) (triple x)) (among (map triple xs) (triple x)) (same_itself (triple x))
  place_among (x ∷ xs) (suc i) d h =
      or_right (same (triple x) (triple (get_or xs i d))) (among (map triple xs) (triple (get_or xs i d)))
      (place_among xs i d (omega (arith, h)))

  pub at_among : (xs : List X) (i : ℕ) (t : Triple) → i < length xs → ((d : X) → triple (get_or xs i d) ≡ t)
      → among (map triple xs) t ≡ true
  at_among xs i t h is =
      let d = first_of xs i h in
      subst (λ u. among (map triple xs) u ≡ true) (is d) (place_among xs i d h)
