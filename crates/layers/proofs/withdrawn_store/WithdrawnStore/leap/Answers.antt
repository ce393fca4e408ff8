-- A number of which all triples are withdrawn is passed, another is the answer. Long, since the layer changes
-- inside twice in a turn, at the leap below and at the seek, and each time stands for what it stood for.
use Rattle.std.proofs.Common.{◌≡◌, ◌+◌, None, sym, refl, ap, ◌∙◌, subst, subst₂}
use Rattle.triples.specs.Meaning.{Meaning}
use Rattle.triples.specs.Seeks.{Sought, Leapt, Lowest}
use Rattle.triples.specs.Selectors.{select}
use Rattle.triples.proofs.Seeks.{origin}
use Rattle.layers.specs.Members.{members}
use Rattle.layers.specs.Withdrawals.{without}
use Rattle.layers.proofs.Withdrawals.{LeaptPast, leapt_past_all, leapt_past_found, leapt_past_more}
use Rattle.layers.proofs.withdrawn_store.WithdrawnStore.leap.Given.{Over}
use Rattle.layers.proofs.withdrawn_store.WithdrawnStore.leap.Goals.{After-leap, After-is_some}
use Rattle.layers.proofs.withdrawn_store.WithdrawnStore.leap.Goals as goal

-- what the layer stands for when the turn begins
abbrev layer : (g : Over) (c : goal.After-leap g) → Meaning
layer g c = without (g.S.Store.meaning c.loop-number.self.below) (members c.loop-number.self.gone)

-- the invariant, of the layer as it is when the turn begins
past : (g : Over) (c : goal.After-leap g)
    → LeaptPast (layer g c).has c.args.position c.args.selector c.args.bound
    c.loop-number.from
past g c =
    subst (λ (m : Meaning). LeaptPast m.has c.args.position c.args.selector c.args.bound
    c.loop-number.from) (sym c.loop-number.invariant.0) c.loop-number.invariant.2

-- behind the leap the layer stands for what it stood for when the turn began
same_leapt : (g : Over) (c : goal.After-leap g)
    → without (g.S.Store.meaning c.leap.new.self) (members c.loop-number.self.gone) ≡ layer g c
same_leapt g c = ap (λ (m : Meaning). without m (members c.loop-number.self.gone)) c.leap.ensures.same

pub returns-clause-answer : goal.returns-clause-answer
returns-clause-answer g c =
    let at = (goal.at.returns-clause-answer g c).After-leap in
    subst (λ (m : Meaning). Leapt m.has c.args.position c.args.selector c.args.bound None)
    c.loop-number.invariant.0
    (leapt_past_all (g.S.Store.meaning c.loop-number.self.below) (members c.loop-number.self.gone)
    c.args.position c.args.selector c.args.bound c.loop-number.from (past g at) c.in_default.ensures.answer)

-- what the seek says of the layer as it is when the turn begins
sought : (g : Over) (c : goal.After-is_some g)
    → Sought (layer g (goal.at.After-is_some g c).After-leap).has
    (select c.args.selector c.args.position c.in-Some.number) origin c.seek.result
sought g c =
    subst₂ (λ (m : Meaning) k. Sought m.has k origin c.seek.result)
    (same_leapt g (goal.at.After-is_some g c).After-leap) c.with.ensures c.seek.ensures.answer

pub returns-then-is_some-clause-answer : goal.returns-then-is_some-clause-answer
returns-then-is_some-clause-answer g c =
    let at = goal.at.returns-then-is_some-clause-answer g c in
    let below = c.loop-number.self.below in
    subst (λ (m : Meaning). Lowest m.has c.args.position c.args.selector c.args.bound c.in-Some.number)
    c.loop-number.invariant.0
    (leapt_past_found (g.S.Store.meaning below) (members c.loop-number.self.gone) c.args.position
    c.args.selector c.args.bound c.loop-number.from (past g at.After-leap) c.in-Some.number
    c.in-Some.ensures.answer (g.S.Store.sound below) c.seek.result (sought g at.After-is_some)
    c.if-is_some.ensures)

pub loop-number-preserved : goal.loop-number-preserved
loop-number-preserved g c =
    let at = (goal.at.loop-number-preserved g c).After-leap in (
      c.seek.ensures.same ∙ same_leapt g at ∙ c.loop-number.invariant.0,
      c.seek.ensures.kept ∙ (rw c.leap.ensures.same (rw c.leap.ensures.kept refl))
          ∙ c.loop-number.invariant.1,
      subst
          (λ (m : Meaning). LeaptPast m.has c.args.position c.args.selector c.args.bound
          (c.in-Some.number + 1))
          c.loop-number.invariant.0
          (leapt_past_more (g.S.Store.meaning c.loop-number.self.below)
          (members c.loop-number.self.gone) c.args.position c.args.selector c.args.bound
          c.loop-number.from (past g at) c.in-Some.number c.in-Some.ensures.answer
          c.seek.result (sought g (goal.at.loop-number-preserved g c).After-is_some)
          c.if-is_some.ensures),
    )
