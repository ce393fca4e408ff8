-- At each position one question to the store below answers.
use Rattle.std.proofs.Common.{sym, ap, ◌∙◌, subst, arith}
use Rattle.std.specs.Bool.{then_some}
use Rattle.triples.specs.Seeks.{Leapt}
use Rattle.layers.specs.Inverses.{turned}
use Rattle.layers.proofs.Turns.{leapt_subject, leapt_object, leapt_property}
use Rattle.layers.proofs.turn.Turn.leap.Goals as goal

pub returns-in-Subject-clause-answer : goal.returns-in-Subject-clause-answer
returns-in-Subject-clause-answer g c =
    let turn = c.args.self in
    leapt_subject (g.S.Store.meaning c.args.below.now) turn.property turn.inverse c.args.selector
    c.in_ok-swapped.swapped turn.known c.top-top.ensures.answer c.in_ok-swapped.ensures c.args.bound
    c.top-top.ensures.same c.in-Subject.is c.leap.result c.leap.ensures.answer

pub returns-in-Object-clause-answer : goal.returns-in-Object-clause-answer
returns-in-Object-clause-answer g c =
    let turn = c.args.self in
    leapt_object (g.S.Store.meaning c.args.below.now) turn.property turn.inverse c.args.selector
    c.in_ok-swapped.swapped turn.known c.top-top.ensures.answer c.in_ok-swapped.ensures c.args.bound
    c.top-top.ensures.same c.in-Object.is c.leap-in-Object.result c.leap-in-Object.ensures.answer

pub returns-in-Property-2-clause-answer : goal.returns-in-Property-2-clause-answer
returns-in-Property-2-clause-answer g c =
    let m = g.S.Store.meaning c.args.below.now in
    let turn = c.args.self in
    subst (Leapt (turned turn.property turn.inverse m) c.args.position c.args.selector c.args.bound)
    (sym (c.then_some.ensures ∙ ap (λ b. then_some b turn.inverse) c.is_some.ensures))
    (leapt_property m turn.property turn.inverse c.args.selector c.in_ok-swapped.swapped turn.known
    c.top-top.ensures.answer c.in_ok-swapped.ensures c.args.bound c.top-top.ensures.same c.in-Property.is
    c.seek-found.result c.seek-found.ensures.answer (omega (arith, c.if-self-bound.false)))
