use Rattle.algebra.proofs.Pruning.{pruners_lawful}
use Rattle.algebra.proofs.theorems.pruners_lawful.Goals as goal

pub returns : goal.returns
returns c = pruners_lawful
