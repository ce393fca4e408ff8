-- What a row store is loaded from. Assumes nothing.
use Rattle.std.specs.Prelude.{ℕ, ◌≤◌, List, length, Some, None, Option}
use Rattle.refusal.specs.declared.refusal.Refusal.TheVariants.{OverLimit, OutsideTerms, NotAscending}
use Rattle.refusal.specs.declared.rejection.Rejection.{Rejection}
use Rattle.triples.specs.declared.triple.Triple.{Triple}
use Rattle.triples.specs.Meaning.{largest_top}
use Rattle.triples.specs.Tables.{Ordered, NotAbove, AllGood, FirstBad, triple_good, itself}

-- the most triples of a row store
abbrev pub most_triples : ℕ
most_triples = 1000000

-- the top and the number of triples are within their limits
pub record RowsLimited (top : ℕ) (rows : List Triple) : Type 0 where
  pub small : top ≤ largest_top
  pub few : length rows ≤ most_triples

-- a lawful table: within its limits, each number a term, and strictly ascending
pub record RowsLawful (top : ℕ) (rows : List Triple) : Type 0 where
  pub limited : RowsLimited top rows
  pub terms : AllGood (triple_good top) rows
  pub ordered : Ordered itself rows

-- what becomes of the table: a store if it is lawful, else a refusal. Limits come first, then numbers, then
-- the order, each only if the whole table has passed the ones before it; only the place in falls is open
pub data RowsOutcome (top : ℕ) (rows : List Triple) : Option Rejection → Type 0 where
  accepted : RowsLawful top rows → RowsOutcome top rows None
  over : (RowsLimited top rows → ⊥)
      → RowsOutcome top rows (Some (record { refusal = OverLimit; place = 0 }))
  outside : (i : ℕ) → RowsLimited top rows → FirstBad (triple_good top) rows i
      → RowsOutcome top rows (Some (record { refusal = OutsideTerms; place = i }))
  falls : (i : ℕ) → RowsLimited top rows → AllGood (triple_good top) rows → NotAbove itself rows i
      → RowsOutcome top rows (Some (record { refusal = NotAscending; place = i }))
