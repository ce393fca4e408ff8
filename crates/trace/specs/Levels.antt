-- What one level of a trace adds: the terms one step from those of the level before. Assumes nothing.
use Rattle.std.specs.Prelude.{ℕ, Bool, List, [], ◌∷◌, ◌++◌}
use Rattle.std.specs.List.{ContainsAt as Has}
use Rattle.std.specs.List.Sorted.{IsNonDecreasing}
use Rattle.triples.specs.declared.triple.Triple.{Triple}
use Rattle.trace.specs.Marks.{Gathered}
use Rattle.trace.specs.Steps.{Step}

-- y is one step from an element of xs
pub record From (has : Triple → Bool) (xs : List ℕ) (y : ℕ) : Type 0 where
  pub from : ℕ
  pub listed : Has xs from
  pub step : Step has from y

-- where marks and found are gathered from the terms xs, after and more are gathered from xs and term
abbrev pub Visited : (Triple → Bool) → ℕ → List Bool → List ℕ → List Bool → List ℕ → Type 0
Visited has term marks found after more =
    (old : List Bool) (xs : List ℕ)
    → Gathered (From has xs) old marks found → Gathered (From has (xs ++ term ∷ [])) old after more

-- xs is what is gathered from the terms of front, ascending
pub record Level (has : Triple → Bool) (front : List ℕ) (old new : List Bool) (xs : List ℕ) : Type 0 where
  pub gathered : Gathered (From has front) old new xs
  pub rising : IsNonDecreasing xs
