-- Each object is noted, one met before only by its mark.
use Rattle.trace.proofs.Marks.{Noted, noted_met, noted_new}
use Rattle.std.proofs.Common.{◌≡◌, ℕ, Bool, List, vec_items, sym, refl, ◌∙◌, subst, arith, rules}
use Rattle.triples.specs.declared.triple.Triple.{Triple}
use Rattle.triples.specs.Seeks.{Least}
use Rattle.triples.proofs.Seeks.{origin}
use Rattle.trace.proofs.Levels.{VisitedTo, of_subject, object_below}
use Rattle.trace.proofs.Levels.{visited_none, visited_more, visited_all, visited_zero}
use Rattle.trace.proofs.Seeks.{least_of, none_of}
use Rattle.trace.proofs.visit.visit.Given.{Over}
use Rattle.trace.proofs.visit.visit.Goals.{In-Some}
use Rattle.trace.proofs.visit.visit.Goals as goal

pub returns-then-term-eq-ANY-clause-answer : goal.returns-then-term-eq-ANY-clause-answer
returns-then-term-eq-ANY-clause-answer g c =
    let first = c.args.store.now in
    visited_zero (g.S.Store.meaning first) (g.S.Store.sound first) c.if-term-eq-ANY.true c.args.seen.now
    (vec_items c.args.found.now)

pub loop-triple-init : goal.loop-triple-init
loop-triple-init g c =
    let first = c.into_iter-triple-iterator.result in
    let store : g.S.Store.meaning first.store.now ≡ g.S.Store.meaning c.args.store.now = search rules in
    let kept : g.S.Store.kept first.store.now ≡ g.S.Store.kept c.args.store.now = search rules in
    let selector : first.selector ≡ of_subject c.args.term = search rules in
    let start : first.start ≡ origin = search rules in
    let has = (g.S.Store.meaning c.args.store.now).has in
    let seen = c.args.seen.now in
    let found = vec_items c.args.found.now in (
      refl,
      store,
      kept,
      selector,
      subst (λ (s : Triple). VisitedTo has c.args.term s seen found seen found) (sym start)
          (visited_none has c.args.term seen found),
    )

-- the triple given is the least one of the term from the start on, of the store as it was at first
least : (g : Over) (c : In-Some g)
    → Least (g.S.Store.meaning c.args.store.now).has (of_subject c.args.term)
    c.loop-triple.triple-iterator.start c.in-Some.triple
least g c =
    least_of c.loop-triple.invariant.1 c.loop-triple.invariant.3 c.in-Some.ensures.steps.answer

pub bounds-seen-triple : goal.bounds-seen-triple
bounds-seen-triple g c =
    let first = c.args.store.now in
    object_below (g.S.Store.meaning first) (g.S.Store.sound first)
    (least g (goal.at.bounds-seen-triple g c).In-Some).candidate c.loop-triple.auto.seen c.requires

-- what is gathered goes on with the object noted
going : (g : Over) (c : In-Some g) → {after : List Bool} {more : List ℕ}
    → Noted c.in-Some.triple.object c.loop-triple.seen (vec_items c.loop-triple.found) after more
    → VisitedTo (g.S.Store.meaning c.args.store.now).has c.args.term c.next.new.self.start
    c.args.seen.now (vec_items c.args.found.now) after more
going g c n =
    let m = g.S.Store.meaning c.args.store.now in
    let some = c.if-term-eq-ANY.false in
    let found = least g c in
    visited_more m.has c.args.term (omega arith) found c.in-Some.ensures.steps.start
    (object_below m (g.S.Store.sound c.args.store.now) found.candidate c.loop-triple.auto.seen c.requires)
    n c.loop-triple.invariant.4

pub loop-triple-preserved : goal.loop-triple-preserved
loop-triple-preserved g c =
    let step = c.in-Some.ensures.steps in
    let i = c.loop-triple.invariant in
    let old = c.replace-first_met.ensures in (
      step.reference ∙ i.0,
      step.same ∙ i.1,
      step.keeps ∙ i.2,
      step.selector ∙ i.3,
      going g (goal.at.loop-triple-preserved g c).In-Some
          (noted_met c.in-Some.triple.object c.loop-triple.seen (vec_items c.loop-triple.found)
          old.after old.value c.if-first_met.false),
    )

pub loop-triple-preserved-in-Continue-1 : goal.loop-triple-preserved-in-Continue-1
loop-triple-preserved-in-Continue-1 g c =
    let step = c.in-Some.ensures.steps in
    let i = c.loop-triple.invariant in
    let old = c.replace-first_met.ensures in (
      step.reference ∙ i.0,
      step.same ∙ i.1,
      step.keeps ∙ i.2,
      step.selector ∙ i.3,
      going g (goal.at.loop-triple-preserved-in-Continue-1 g c).In-Some {more = vec_items c.push.new.self}
          (noted_new c.in-Some.triple.object c.loop-triple.seen (vec_items c.loop-triple.found)
          old.after old.value c.if-first_met.true c.in_ok-push.ensures.items),
    )

pub returns-clause-answer : goal.returns-clause-answer
returns-clause-answer g c =
    let i = c.loop-triple.invariant in
    visited_all (g.S.Store.meaning c.args.store.now).has c.args.term
    (none_of i.1 i.3 c.in-None.ensures.steps.answer) i.4
