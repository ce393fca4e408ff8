use Rattle.algebra.proofs.BasicPatterns.{basic_patterns}
use Rattle.algebra.proofs.theorems.basic_patterns.Goals as goal

pub returns : goal.returns
returns c = basic_patterns
