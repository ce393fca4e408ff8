use Rattle.std.proofs.Common.{sym, ◌∙◌}
use Rattle.feedtrace.specs.Laying.{WithdrawnOn}
use Rattle.feedtrace.proofs.Laying.{changed_some}
use Rattle.feedtrace.proofs.session.Session.lay_withdrawn.Goals as goal

pub returns : goal.returns
returns c =
    changed_some WithdrawnOn c.args.self.now c.in_ok-store.store
    c.under_withdrawn-after.result.0 c.under_withdrawn-after.result.1
    (sym c.take.ensures.value ∙ c.in_ok-store.ensures.ok_part) c.under_withdrawn-after.ensures
