-- The triples of a set that match a selector, as a list. Assumes nothing.
use Rattle.std.specs.Prelude.{◌≡◌, Bool, true, List, length}
use Rattle.std.specs.List.{AllByRecursion, AllAdjacentBelow}
use Rattle.triples.specs.declared.selector.Selector.{Selector}
use Rattle.triples.specs.declared.triple.Triple.{Triple}
use Rattle.triples.specs.Meaning.{among}
use Rattle.triples.specs.Order.{before}
use Rattle.triples.specs.Selectors.{matches}

-- t is in the set and matches the selector
pub record Match (has : Triple → Bool) (selector : Selector) (t : Triple) : Type 0 where
  pub held : has t ≡ true
  pub fit : matches selector t ≡ true

-- each triple of xs comes before the next
abbrev pub Ascending : List Triple → Type 0
Ascending xs = AllAdjacentBelow (λ t u. before t u ≡ true) xs (length xs)

-- xs is ascending, each of its triples is a match, and every match is among them
pub record Scanned (has : Triple → Bool) (selector : Selector) (xs : List Triple) : Type 0 where
  pub ascending : Ascending xs
  pub each : AllByRecursion (Match has selector) xs
  pub all : (t : Triple) → Match has selector t → among xs t ≡ true
