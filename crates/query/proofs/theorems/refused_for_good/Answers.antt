use Rattle.query.proofs.Verdicts.{refused_for_good}
use Rattle.query.proofs.theorems.refused_for_good.Goals as goal

pub returns : goal.returns
returns c = refused_for_good
