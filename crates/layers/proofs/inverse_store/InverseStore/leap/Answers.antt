-- The lesser of the two answers is the answer of the two sets together.
use Rattle.std.proofs.Common.{sym, ◌∙◌, subst}
use Rattle.triples.specs.Meaning.{Meaning}
use Rattle.triples.specs.Seeks.{Leapt}
use Rattle.triples.specs.Unions.{union}
use Rattle.triples.proofs.Unions.{leapt_union, least_lesser}
use Rattle.layers.specs.Inverses.{turned}
use Rattle.layers.proofs.inverse_store.InverseStore.leap.Goals as goal

pub returns-clause-answer : goal.returns-clause-answer
returns-clause-answer g c =
    let m = g.S.Store.meaning c.args.self.now.below in
    let turn = c.args.self.now.turn in
    let set = turned turn.property turn.inverse in
    let held = c.leap-held.result in
    let r = c.leap-turned.result in
    subst (Leapt (union m.has (set m)) c.args.position c.args.selector c.args.bound)
    (sym (c.least_of.ensures ∙ least_lesser held r))
    (leapt_union m.has (set m) c.args.position c.args.selector c.args.bound held r c.leap-held.ensures.answer
    (subst (λ (n : Meaning). Leapt (set n) c.args.position c.args.selector c.args.bound r)
    c.leap-held.ensures.same c.leap-turned.ensures.answer))
