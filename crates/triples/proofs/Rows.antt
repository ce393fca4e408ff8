-- What a table that is accepted is. Assumes nothing.
use Rattle.std.proofs.Common.{ℕ, List, None}
use Rattle.triples.specs.declared.triple.Triple.{Triple}
use Rattle.triples.specs.Rows.{RowsOutcome, RowsLawful, accepted}

pub rows_accepted : (top : ℕ) (rows : List Triple) → RowsOutcome top rows None → RowsLawful top rows
rows_accepted top rows (accepted l) = l
