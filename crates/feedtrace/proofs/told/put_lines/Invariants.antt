-- The lines of the items before the index stand written.
use Rattle.std.proofs.Common.{ℕ, List, take}
use Rattle.std.specs.Fmt.{HasWritten, IsPlainFormatter}
use Rattle.feedtrace.specs.Outcomes.{ShowsAs, lines_text}
use Rattle.feedtrace.proofs.told.put_lines.Given as goal

abbrev pub invariant-loop-item : goal.invariant-loop-item
invariant-loop-item g l =
    (text : g.row.T.Denot → List ℕ) → ShowsAs g.T.Display.output text → IsPlainFormatter l.initial.f
    → HasWritten g.W.Write.write_str_gives l.initial.f (lines_text text (take l.item-index l.items)) l.f
