-- The least object of a subject gives the least turned triple of that subject.
use Rattle.std.proofs.Common.{sym, subst}
use Rattle.triples.specs.Seeks.{Sought}
use Rattle.layers.specs.Inverses.{turned}
use Rattle.layers.proofs.Turns.{sought_object, sought_object_none}
use Rattle.layers.proofs.turn.Turn.seek_subject.Goals as goal

pub returns-in_err-object-clause-answer : goal.returns-in_err-object-clause-answer
returns-in_err-object-clause-answer g c =
    let m = g.S.Store.meaning c.args.below.now in
    let turn = c.args.self in
    subst (Sought (turned turn.property turn.inverse m) c.args.selector c.args.start)
    (sym c.from_residual-in_err-object.ensures)
    (sought_object_none m turn.property turn.inverse c.args.selector c.in_ok-swapped.swapped turn.known
    c.top-top.ensures.answer c.in_ok-swapped.ensures c.args.start c.requires c.in_ok-bound.bound
    c.in_ok-bound.ensures c.top-top.ensures.same c.in_err-object.ensures.answer)

pub returns-clause-answer : goal.returns-clause-answer
returns-clause-answer g c =
    let turn = c.args.self in
    sought_object (g.S.Store.meaning c.args.below.now) turn.property turn.inverse c.args.selector
    c.in_ok-swapped.swapped turn.known c.top-top.ensures.answer c.in_ok-swapped.ensures c.args.start
    c.requires c.in_ok-bound.bound c.in_ok-bound.ensures c.top-top.ensures.same c.in_ok-object.object
    c.in_ok-object.ensures.answer
