-- The nodes so far have come in, and the rest of them gives the answer.
use Rattle.std.proofs.Common.{◌+◌, length}
use Rattle.query.specs.Building.{Tracks, used_of}
use Rattle.query.specs.Scanning.{Holds}
use Rattle.query.specs.Drafts.{Draft, with_nodes_in}
use Rattle.query.specs.Grammar.{node}
use Rattle.query.proofs.Scans.{Sofar}
use Rattle.query.proofs.cursor.Cursor.filter.Given as goal

abbrev pub invariant-loop-number : goal.invariant-loop-number
invariant-loop-number l = (d : Draft) → Tracks l.initial.builder d
    → Sofar node (λ i _. i + 1) length l.count l.number l.initial.self l.self
    (λ ns. Holds l.builder (with_nodes_in d ns) (used_of l.initial.builder))
