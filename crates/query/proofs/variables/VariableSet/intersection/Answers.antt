use Rattle.std.proofs.Common.{◌&&◌, rules}
use Rattle.query.proofs.variables.VariableSet.intersection.Goals as goal

pub returns : goal.returns
returns c = c.zip_with.ensures (λ x y. x && y) (λ x y r e. search rules)
