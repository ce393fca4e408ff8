-- The alternatives so far have come in, and the rest of them gives the answer.
use Rattle.std.proofs.Common.{[]}
use Rattle.query.specs.Scanning.{Holds}
use Rattle.query.specs.Drafts.{finished}
use Rattle.query.specs.Grammar.{alternative, unused, with_group}
use Rattle.query.proofs.Scans.{Sofar, with_groups}
use Rattle.query.proofs.cursor.Cursor.alternatives.Given as goal

abbrev pub invariant-loop-number : goal.invariant-loop-number
invariant-loop-number l = Holds l.initial.builder (finished [] [] []) unused
    → Sofar alternative with_group with_groups l.count l._number l.initial.self l.self
    (λ q. Holds l.builder (finished q [] []) (with_groups q))
