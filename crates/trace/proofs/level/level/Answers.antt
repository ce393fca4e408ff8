-- Each term of the level before is visited in turn, and what is found is put in order.
use Rattle.std.proofs.Common.{vec_items, ◌∙◌}
use Rattle.std.proofs.lemmas.List.Sorted.{IsNonDecreasingBy-from_sort}
use Rattle.trace.proofs.Levels.{gathered_next, level_all, visited_like}
use Rattle.trace.proofs.level.level.Goals as goal

pub loop-term-preserved : goal.loop-term-preserved
loop-term-preserved g c = (
  c.in_ok-visit.ensures.same ∙ c.loop-term.invariant.0,
  c.in_ok-visit.ensures.kept ∙ c.loop-term.invariant.1,
  gathered_next c.args.front.now c.loop-term.term-index c.loop-term-test.true
      (visited_like c.loop-term.invariant.0 c.in_ok-visit.ensures.answer)
      c.loop-term.invariant.2,
)

pub returns-clause-answer : goal.returns-clause-answer
returns-clause-answer g c =
    let sorted = vec_items c.sort_unstable.new.self in
    level_all c.args.front.now c.loop-term-test.false c.sort_unstable.ensures.permutation
    (IsNonDecreasingBy-from_sort (λ x. x) sorted c.sort_unstable.ensures.sorted) c.loop-term.invariant.2
