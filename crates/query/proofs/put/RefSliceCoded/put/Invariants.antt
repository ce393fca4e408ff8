-- Writing the items left behind the place reached completes the list.
use Rattle.std.proofs.Common.{◌≡◌, drop}
use Rattle.query.proofs.Writes.{Completes}
use Rattle.query.proofs.put.RefSliceCoded.put.Given as goal

abbrev pub invariant-loop-item : goal.invariant-loop-item
invariant-loop-item g l =
    Completes g.T.Coded.code l.item-items (drop l.item-index l.item-items) l.initial.writer.out.now
    l.initial.writer.at l.writer.out.now l.writer.at
    × (l.writer.out.ghost_name ≡ l.initial.writer.out.ghost_name)
