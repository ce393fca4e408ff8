use Rattle.query.proofs.Verdicts.{one_writing_each}
use Rattle.query.proofs.theorems.one_writing_each.Goals as goal

pub returns : goal.returns
returns c = one_writing_each
