use Rattle.std.proofs.Common.{Ok, refl, inl}
use Rattle.feedtrace.specs.declared.outcome.Outcome.TheVariants.{Triples}
use Rattle.feedtrace.specs.Tasks.{ScanAnswer}
use Rattle.feedtrace.proofs.Keeping.{layered_telling}
use Rattle.feedtrace.proofs.Tasks.{asked_some}
use Rattle.feedtrace.proofs.session.Session.scan.Goals as goal

pub returns : goal.returns
returns c =
    asked_some (ScanAnswer c.args.selector) c.args.self.now c.in_ok-store.store.now c.scan.new.store
    (Ok (Triples c.in_ok-scan.field-0))
    c.in_ok-store.ensures.value
    (layered_telling _ _ c.scan.ensures.kept)
    (inl (c.in_ok-scan.field-0, (refl, c.in_ok-scan.ensures.answer)))
