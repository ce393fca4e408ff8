use Rattle.algebra.proofs.Parts.{walk_takes_the_lowest}
use Rattle.algebra.proofs.theorems.walk_takes_the_lowest.Goals as goal

pub returns : goal.returns
returns c = walk_takes_the_lowest
