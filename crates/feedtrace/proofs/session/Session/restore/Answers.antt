use Rattle.feedtrace.specs.Laying.{RestoredOn}
use Rattle.feedtrace.proofs.Laying.{changed_some}
use Rattle.feedtrace.proofs.session.Session.restore.Goals as goal

pub returns : goal.returns
returns c =
    changed_some (RestoredOn c.args.triple) c.args.self.now c.in_ok-current.field-0.now c.restore.new.self
    c.restore.result
    c.in_ok-current.ensures.value c.restore.ensures
