use Rattle.algebra.proofs.Examples.{examples_hold}
use Rattle.algebra.proofs.theorems.worked_examples.Goals as goal

pub returns : goal.returns
returns c = examples_hold
