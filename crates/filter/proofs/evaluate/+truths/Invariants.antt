use Rattle.std.proofs.Common.{length}
use Rattle.filter.proofs.evaluate.+truths.Given as goal

abbrev pub decreases-truths : goal.decreases-truths
decreases-truths l = length l.nodes.now
