-- least is the smallest number that the triples gone over offer.
use Rattle.std.proofs.Common.{◌≡◌, None, map, take}
use Rattle.std.specs.List.{fold}
use Rattle.triples.proofs.Leaps.{better}
use Rattle.triples.proofs.run.Run.pass_over.Given as goal

abbrev pub invariant-loop-item : goal.invariant-loop-item
invariant-loop-item g l =
    l.least ≡ fold (better l.position l.selector l.bound) None
    (map (g.T.Element.placed l.self.property) (take l.item-index l.item-items))
