use Rattle.std.proofs.Common.{ℕ, ◌≤◌, sym, refl, ◌∙◌, subst, subst₂, arith}
use Rattle.triples.specs.Meaning.{Meaning}
use Rattle.triples.specs.Seeks.{Sought, Leapt, Offer, Lowest}
use Rattle.triples.specs.Selectors.{select}
use Rattle.triples.proofs.Seeks.{leapt_from_sought, passed_none, passed_more, passed_found, passed_all}
use Rattle.triples.proofs.Seeks.{term_least, origin}
use Rattle.triples.proofs.store.Store.leap.Given.{Over}
use Rattle.triples.proofs.store.Store.leap.Goals.{After-is_some}
use Rattle.triples.proofs.store.Store.leap.Goals as goal

pub returns-in-Some : goal.returns-in-Some
returns-in-Some g c =
    let has = (g.Self.Store.meaning c.args.self.now).has in
    record {
      answer = subst (Leapt has c.args.position c.args.selector c.args.bound)
          (sym c.offered.ensures)
          (leapt_from_sought has c.args.position c.args.selector c.args.bound c.in-Some.start
          (sym c.aim.ensures ∙ c.in-Some.is) c.seek-found.result c.seek-found.ensures.answer);
      same = c.seek-found.ensures.same;
      kept = c.seek-found.ensures.kept;
    }

pub loop-number-init : goal.loop-number-init
loop-number-init g c =
    let m = g.Self.Store.meaning c.top-top.new.self in (
      refl,
      refl,
      subst (λ k. (n : ℕ) → Offer m.has c.args.position c.args.selector c.args.bound n → k ≤ n)
          (sym c.first_term-number.ensures)
          (passed_none m c.args.position c.args.selector c.args.bound
          (sym c.in_default.ensures) (g.Self.Store.sound c.top-top.new.self)),
    )

-- what the seek of the loop says of the store as it was when the loop began
sought : (g : Over) (c : goal.After-is_some g)
    → Sought (g.Self.Store.meaning c.top-top.new.self).has
    (select c.args.selector c.args.position c.loop-number.number) origin c.seek.result
sought g c =
    subst₂ (λ (m : Meaning) k. Sought m.has k origin c.seek.result) c.loop-number.invariant.0
    c.with.ensures
    c.seek.ensures.answer

pub returns-then-is_some : goal.returns-then-is_some
returns-then-is_some g c =
    let least = term_least c.args.bound in
    let first = c.first_term-number.ensures in
    let from = c.loop-number.auto.number in
    record {
      answer = subst
          (λ (m : Meaning). Lowest m.has c.args.position c.args.selector c.args.bound
          c.loop-number.number) c.top-top.ensures.same
          (passed_found (g.Self.Store.meaning c.top-top.new.self) c.args.position
          c.args.selector
          c.args.bound (sym c.in_default.ensures) c.loop-number.number c.seek.result
          (sought g (goal.at.returns-then-is_some g c).After-is_some) c.if-is_some.ensures
          (omega (arith, least.0, first, from)) (omega (arith, least.1, first, from))
          c.loop-number.invariant.2);
      same = c.seek.ensures.same ∙ c.loop-number.invariant.0 ∙ c.top-top.ensures.same;
      kept = c.seek.ensures.kept ∙ c.loop-number.invariant.1 ∙ c.top-top.ensures.kept;
    }

pub loop-number-preserved : goal.loop-number-preserved
loop-number-preserved g c = (
  c.seek.ensures.same ∙ c.loop-number.invariant.0,
  c.seek.ensures.kept ∙ c.loop-number.invariant.1,
  passed_more (g.Self.Store.meaning c.top-top.new.self) c.args.position c.args.selector
      c.args.bound (sym c.in_default.ensures) c.loop-number.number c.seek.result
      (sought g (goal.at.loop-number-preserved g c).After-is_some) c.if-is_some.ensures
      c.loop-number.invariant.2,
)

pub returns : goal.returns
returns g c =
    let top = c.top-top.ensures.answer in
    let past = c.loop-number-test.false in
    let m = g.Self.Store.meaning c.args.self.now in
    record {
      answer = passed_all m c.args.position c.args.selector c.args.bound
          (sym c.in_default.ensures) (g.Self.Store.sound c.args.self.now)
          c.loop-number.number (omega (arith, top, past))
          (subst (λ (k : Meaning). (n : ℕ) → Offer k.has c.args.position c.args.selector
          c.args.bound n
          → c.loop-number.number ≤ n) c.top-top.ensures.same c.loop-number.invariant.2);
      same = c.loop-number.invariant.0 ∙ c.top-top.ensures.same;
      kept = c.loop-number.invariant.1 ∙ c.top-top.ensures.kept;
    }
