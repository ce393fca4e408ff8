use Rattle.layers.proofs.Histories.{restored_is_there}
use Rattle.layers.proofs.theorems.restored_is_there.Goals as goal

pub returns : goal.returns
returns c = restored_is_there
