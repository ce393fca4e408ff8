use Rattle.algebra.proofs.Cardinalities.{only_counts_matter}
use Rattle.algebra.proofs.theorems.only_counts_matter.Goals as goal

pub returns : goal.returns
returns c = only_counts_matter
