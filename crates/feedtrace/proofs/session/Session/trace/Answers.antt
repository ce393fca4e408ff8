use Rattle.std.proofs.Common.{Ok, refl, inl}
use Rattle.feedtrace.specs.declared.outcome.Outcome.TheVariants.{Terms}
use Rattle.feedtrace.specs.Tasks.{TraceAnswer}
use Rattle.feedtrace.proofs.Keeping.{layered_telling}
use Rattle.feedtrace.proofs.Tasks.{asked_some}
use Rattle.feedtrace.proofs.session.Session.trace.Goals as goal

pub returns : goal.returns
returns c =
    asked_some (TraceAnswer c.args.term) c.args.self.now c.in_ok-store.store.now c.trace.new.store
    (Ok (Terms c.in_ok-trace.field-0))
    c.in_ok-store.ensures.value
    (layered_telling _ _ c.trace.ensures.kept)
    (inl (c.in_ok-trace.field-0, (refl, c.in_ok-trace.ensures.answer)))
