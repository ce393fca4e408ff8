-- Each triple goes behind those found before it.
use Rattle.std.proofs.Common.{vec_items, ◌∙◌}
use Rattle.trace.proofs.Scans.{scanned_more}
use Rattle.trace.proofs.Seeks.{least_of}
use Rattle.trace.proofs.scan.scan.Goals as goal

pub loop-triple-preserved : goal.loop-triple-preserved
loop-triple-preserved g c =
    let first = c.into_iter-triple-iterator.result in
    let step = c.in-Some.ensures.steps in
    let i = c.loop-triple.invariant in (
      step.reference ∙ i.0,
      step.same ∙ i.1,
      step.keeps ∙ i.2,
      step.selector ∙ i.3,
      scanned_more (g.S.Store.meaning first.store.now).has first.selector {ys = vec_items c.push.new.self}
          (least_of i.1 i.3 step.answer) step.start c.in_ok-push.ensures.items i.4,
    )
