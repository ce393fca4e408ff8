use Rattle.std.proofs.Common.{rules}
use Rattle.query.specs.Shape.{shape}
use Rattle.console.proofs.session.Session.show.Goals as goal

pub returns : goal.returns
returns c = (shape c.in_ok-ok_or.field-0.now, search rules)
