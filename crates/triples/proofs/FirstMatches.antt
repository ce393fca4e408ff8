-- The first element of a list that matches, from a place on. Assumes nothing.
use Rattle.std.specs.Prelude.{◌≡◌, ℕ, ◌<◌, ◌≤◌, true, false, not, List, map, length, drop, Option}
use Rattle.std.specs.Prelude.{MatchOption, slice_index_or, take_while}
use Rattle.triples.specs.declared.selector.Selector.{Selector}
use Rattle.triples.specs.declared.triple.Triple.{Triple}
use Rattle.triples.specs.Selectors.{matches, passed}

-- no element from the place `from` up to the place `to` matches the selector
abbrev pub Silent : {X : Type 0} → (X → Triple) → List X → Selector → ℕ → ℕ → Type 0
Silent {X} triple xs selector from to =
    (k : ℕ) (d : X) → from ≤ k → k < to → matches selector (triple (slice_index_or xs k d)) ≡ false

-- t matches the selector, and is the first to do so from the place `from` on
pub record FirstMatch {X : Type 0} (triple : X → Triple) (xs : List X) (selector : Selector) (from : ℕ)
    (t : Triple)
    : Type 0 where
  pub at : ℕ
  pub behind : from ≤ at
  pub inside : at < length xs
  pub is : (d : X) → triple (slice_index_or xs at d) ≡ t
  pub fit : matches selector t ≡ true
  pub silent : Silent triple xs selector from at

-- r is the first triple that matches from the place `from` on, or none where none matches
abbrev pub Met : {X : Type 0} → (X → Triple) → List X → Selector → ℕ → Option Triple → Type 0
Met triple xs selector from r =
    MatchOption r (Silent triple xs selector from (length xs)) (FirstMatch triple xs selector from)

-- the triples of the list from the place `from` on, up to the first that is passed
abbrev pub reachable : {X : Type 0} → (X → Triple) → List X → Selector → ℕ → List Triple
reachable triple xs selector from = take_while (λ t. not (passed selector t)) (map triple (drop from xs))
