-- The earlier of the two answers is the answer of the two sets together.
use Rattle.std.proofs.Common.{sym, ◌∙◌, subst}
use Rattle.triples.specs.Meaning.{Meaning}
use Rattle.triples.specs.Seeks.{Sought}
use Rattle.triples.specs.Unions.{union}
use Rattle.triples.proofs.Unions.{sought_union, least_earlier}
use Rattle.layers.specs.Inverses.{turned}
use Rattle.layers.proofs.inverse_store.InverseStore.seek.Goals as goal

pub returns-clause-answer : goal.returns-clause-answer
returns-clause-answer g c =
    let m = g.S.Store.meaning c.args.self.now.below in
    let turn = c.args.self.now.turn in
    let set = turned turn.property turn.inverse in
    let held = c.seek-held.result in
    let r = c.seek-turned.result in
    subst (Sought (union m.has (set m)) c.args.selector c.args.start)
    (sym (c.least_of.ensures ∙ least_earlier held r))
    (sought_union m.has (set m) c.args.selector c.args.start held r c.seek-held.ensures.answer
    (subst (λ (n : Meaning). Sought (set n) c.args.selector c.args.start r)
    c.seek-held.ensures.same c.seek-turned.ensures.answer))
