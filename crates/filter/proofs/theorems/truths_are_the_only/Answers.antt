use Rattle.filter.proofs.Consistency.{truths_are_the_only}
use Rattle.filter.proofs.theorems.truths_are_the_only.Goals as goal

pub returns : goal.returns
returns c = truths_are_the_only
