-- The pairs of the entries before i ascend.
use Rattle.std.proofs.Common.{ℕ, ◌<◌}
use Rattle.triples.specs.Tables.{Ordered, triple_of}
use Rattle.triples.specs.Directory.{property_of, section}
use Rattle.triples.proofs.table.Table.fall_in_entry.Given as goal

abbrev pub invariant-loop-i : goal.invariant-loop-i
invariant-loop-i l =
    (k : ℕ) → k < l.i → Ordered (triple_of (property_of l.self.directory.now k))
    (section l.self.directory.now l.self.pairs.now k)
