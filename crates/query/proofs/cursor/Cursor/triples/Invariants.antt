-- The triples so far have come in, and the rest of them gives the answer.
use Rattle.std.proofs.Common.{ℕ, ◌+◌, length}
use Rattle.query.specs.Building.{Tracks, used_of}
use Rattle.query.specs.Scanning.{Holds}
use Rattle.query.specs.Drafts.{Draft, with_triples_in}
use Rattle.query.specs.Grammar.{triple}
use Rattle.query.proofs.Scans.{Sofar}
use Rattle.query.proofs.cursor.Cursor.triples.Given as goal

abbrev pub invariant-loop-number : goal.invariant-loop-number
invariant-loop-number l = (d : Draft) → Tracks l.initial.builder d
    → Sofar (λ (_ : ℕ). triple) (λ i _. i + 1) length l.count l._number l.initial.self l.self
    (λ ts. Holds l.builder (with_triples_in d ts) (used_of l.initial.builder))
