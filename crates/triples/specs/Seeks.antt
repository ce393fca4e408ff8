-- What seek and leap answer, over a set of triples given by its test. Assumes nothing.
use Rattle.std.specs.Prelude.{◌≡◌, ℕ, ◌≤◌, Bool, true, false, Option, MatchOption}
use Rattle.triples.specs.declared.position.Position.{Position}
use Rattle.triples.specs.declared.selector.Selector.{Selector}
use Rattle.triples.specs.declared.triple.Triple.{Triple}
use Rattle.triples.specs.Order.{before, value_at}
use Rattle.triples.specs.Selectors.{matches}

-- t is in the set, matches the selector and is not below start
pub record Candidate (has : Triple → Bool) (selector : Selector) (start t : Triple) : Type 0 where
  pub held : has t ≡ true
  pub fit : matches selector t ≡ true
  pub reached : before t start ≡ false

-- t is a candidate, and none comes before it
pub record Least (has : Triple → Bool) (selector : Selector) (start t : Triple) : Type 0 where
  pub candidate : Candidate has selector start t
  pub first : (u : Triple) → Candidate has selector start u → before u t ≡ false

-- r is the least candidate, or none where there is none
abbrev pub Sought : (Triple → Bool) → Selector → Triple → Option Triple → Type 0
Sought has selector start r =
    MatchOption r ((t : Triple) → Candidate has selector start t → ⊥) (Least has selector start)

-- n is not below the bound, and a triple of the set that matches the selector has it at the position
pub record Offer (has : Triple → Bool) (position : Position) (selector : Selector)
    (bound n : ℕ) : Type 0 where
  pub triple : Triple
  pub held : has triple ≡ true
  pub fit : matches selector triple ≡ true
  pub stands : value_at position triple ≡ n
  pub reached : bound ≤ n

-- n is offered, and no smaller number is
pub record Lowest (has : Triple → Bool) (position : Position) (selector : Selector)
    (bound n : ℕ) : Type 0 where
  pub offer : Offer has position selector bound n
  pub first : (k : ℕ) → Offer has position selector bound k → n ≤ k

-- r is the smallest number offered, or none where there is none
abbrev pub Leapt : (Triple → Bool) → Position → Selector → ℕ → Option ℕ → Type 0
Leapt has position selector bound r =
    MatchOption r ((n : ℕ) → Offer has position selector bound n → ⊥) (Lowest has position selector bound)
