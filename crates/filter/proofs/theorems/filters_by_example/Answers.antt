use Rattle.filter.proofs.Examples.{examples_hold}
use Rattle.filter.proofs.theorems.filters_by_example.Goals as goal

pub returns : goal.returns
returns c = examples_hold
