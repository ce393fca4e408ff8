use Rattle.algebra.proofs.Cardinalities.{counted_as_defined}
use Rattle.algebra.proofs.theorems.counted_as_defined.Goals as goal

pub returns : goal.returns
returns c = counted_as_defined
