-- Each level goes behind those before it and marks its terms; past an empty one nothing is reached.
use Rattle.std.proofs.Common.{◌≡◌, ℕ, ◌+◌, List, ◌++◌, length, vec_items, sym, refl, ap, ◌∙◌, subst, arith}
use Rattle.std.proofs.lemmas.List.{nil_from_length, with_items_is}
use Rattle.std.proofs.lemmas.Bool.{eqb-true}
use Rattle.std.specs.Vec.{with_items}
use Rattle.triples.specs.Meaning.{Meaning}
use Rattle.trace.specs.Levels.{Level}
use Rattle.trace.specs.Steps.{Traced}
use Rattle.trace.proofs.Levels.{level_like}
use Rattle.trace.proofs.Steps.{layers_none, layers_more, layers_all}
use Rattle.trace.proofs.trace.trace.Given.{Over}
use Rattle.trace.proofs.trace.trace.Goals.{In_ok-extend_from_slice}
use Rattle.trace.proofs.trace.trace.Goals as goal

pub levels-init : goal.levels-init
levels-init g c =
    let made = c.in_ok-seen.ensures in
    let long = c.in_ok-seen.seen.ok.0 in
    let same = ap (λ (m : Meaning). m.top) c.top.ensures.same in (
      refl,
      refl,
      omega (arith, long, made.len, c.top.ensures.answer, same),
      layers_none (g.S.Store.meaning c.top.new.self).has c.args.term (c.top.result + 1)
          c.new-reached.ensures.items c.in_ok-front.ensures.items
          (made.items_if_clones_equal (λ y e. e)),
    )

-- the marks after a level, as the trace holds them
marks_after : (g : Over) (c : In_ok-extend_from_slice g)
    → (with_items c.levels.seen c.level.new.seen).items ≡ c.level.new.seen
marks_after g c =
    with_items_is c.levels.seen c.level.new.seen
    (c.level.auto.seen ∙ c.as_mut_slice.ensures.len)

-- what the level says of the front, the marks and the store as they were at first
levelled : (g : Over) (c : In_ok-extend_from_slice g)
    → Level (g.S.Store.meaning c.top.new.self).has (vec_items c.levels.front)
    (vec_items c.levels.seen) c.level.new.seen (vec_items c.in_ok-front-2.front)
levelled g c =
    level_like c.levels.invariant.0 c.as_slice.ensures.value c.as_mut_slice.ensures.value
    c.in_ok-front-2.ensures.answer

pub levels-preserved : goal.levels-preserved
levels-preserved g c =
    let reached = vec_items c.levels.reached in
    let slice = c.as_slice-in-levels.ensures.value in (
      c.level.ensures.same ∙ c.levels.invariant.0,
      c.level.ensures.kept ∙ c.levels.invariant.1,
      omega (
        arith,
        c.levels.invariant.2,
        ap length (marks_after g c),
        c.level.auto.seen,
        ap length c.as_mut_slice.ensures.value,
      ),
      layers_more (g.S.Store.meaning c.top.new.self).has c.args.term (levelled g c)
          (subst (λ (xs : List ℕ). vec_items c.extend_from_slice.new.self ≡ reached ++ xs) slice
          c.in_ok-extend_from_slice.ensures.items)
          (marks_after g c) c.levels.invariant.3,
    )

pub returns-clause-answer : goal.returns-clause-answer
returns-clause-answer g c =
    let none = eqb-true _ _ (sym c.levels-test.ensures) in
    let long = c.levels.front.ok.0 in
    let empty = nil_from_length (vec_items c.levels.front) (omega (arith, none, long)) in
    subst (λ (m : Meaning). Traced m.has c.args.term (vec_items c.levels.reached)) c.top.ensures.same
    (layers_all (g.S.Store.meaning c.top.new.self).has c.args.term empty c.levels.invariant.3)
