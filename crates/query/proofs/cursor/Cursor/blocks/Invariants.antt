-- The blocks so far have come in, and the rest of them gives the answer.
use Rattle.std.proofs.Common.{List, []}
use Rattle.query.specs.declared.pattern.TriplePattern.{TriplePattern}
use Rattle.query.specs.Building.{Tracks, used_of}
use Rattle.query.specs.Scanning.{Holds}
use Rattle.query.specs.Drafts.{finished}
use Rattle.query.specs.Grammar.{block, with_part, with_parts}
use Rattle.query.specs.Parts.{Group}
use Rattle.query.proofs.Scans.{Sofar}
use Rattle.query.proofs.cursor.Cursor.blocks.Given as goal

abbrev pub invariant-loop-number : goal.invariant-loop-number
invariant-loop-number l = (done : List Group) (required : List TriplePattern)
    → Tracks l.initial.builder (finished done required [])
    → Sofar block with_part (with_parts (used_of l.initial.builder)) l.count l._number
    l.initial.self l.self
    (λ bs. Holds l.builder (finished done required bs) (with_parts (used_of l.initial.builder) bs))
