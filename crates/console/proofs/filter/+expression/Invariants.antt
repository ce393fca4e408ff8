-- A node that is named is lower.
use Rattle.std.proofs.Common.{◌+◌, ◌*◌, length}
use Rattle.console.proofs.filter.+expression.Given as goal

abbrev pub decreases-put_expression : goal.decreases-put_expression
decreases-put_expression g l = 3 * length l.nodes.now

abbrev pub decreases-put_both : goal.decreases-put_both
decreases-put_both g l = 3 * length l.below.now + 2

abbrev pub decreases-put_operand : goal.decreases-put_operand
decreases-put_operand g l = 3 * length l.below.now + 1
