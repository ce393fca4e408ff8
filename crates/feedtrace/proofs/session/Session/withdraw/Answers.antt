use Rattle.feedtrace.specs.Laying.{WithdrewOn}
use Rattle.feedtrace.proofs.Laying.{changed_some}
use Rattle.feedtrace.proofs.session.Session.withdraw.Goals as goal

pub returns : goal.returns
returns c =
    changed_some (WithdrewOn c.args.triple) c.args.self.now c.in_ok-current.field-0.now c.withdraw.new.self
    c.withdraw.result
    c.in_ok-current.ensures.value c.withdraw.ensures
