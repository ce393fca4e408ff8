-- Where a start stands in an ordered list. Assumes nothing.
use Rattle.std.specs.Prelude.{◌≡◌, ℕ, ◌<◌, ◌≤◌, true, false, cond, List, length, Some, None, Option}
use Rattle.std.specs.Prelude.{slice_index_or}
use Rattle.triples.specs.declared.position.Position.{Position}
use Rattle.triples.specs.declared.selector.Selector.{Selector}
use Rattle.triples.specs.declared.triple.Triple.{Triple}
use Rattle.triples.specs.Order.{before, number_from}
use Rattle.triples.specs.Selectors.{matches}

-- the one of the two triples that does not come before the other
abbrev pub later : Triple → Triple → Triple
later t u = cond (before t u) u t

-- the elements before i stand for triples before the start, and those from i on do not
pub record Split {X : Type 0} (triple : X → Triple) (xs : List X) (start : Triple) (i : ℕ) : Type 0 where
  pub inside : i ≤ length xs
  pub below : (k : ℕ) (d : X) → k < i → before (triple (slice_index_or xs k d)) start ≡ true
  pub behind : (k : ℕ) (d : X) → i ≤ k → k < length xs → before (triple (slice_index_or xs k d)) start ≡ false

-- the number at the position of t, if t matches the selector and the number is not below the bound
abbrev pub offer_of : Triple → Position → Selector → ℕ → Option ℕ
offer_of t position selector bound = cond (matches selector t) (number_from position bound (Some t)) None
