-- The numbers of a pair are read as the pair, since the line is.
use Rattle.std.proofs.Common.{rules}
use Rattle.feedtrace.proofs.WrittenLines.{PairReadsBack-from_said}
use Rattle.feedtrace.proofs.field.Fields.pair.Goals as goal

pub returns-in_err-subject-clause-law : goal.returns-in_err-subject-clause-law
returns-in_err-subject-clause-law c =
    PairReadsBack-from_said c.args.self.rest.now c.from_residual.result (search rules)

pub returns-in_err-object-clause-law : goal.returns-in_err-object-clause-law
returns-in_err-object-clause-law c =
    PairReadsBack-from_said c.args.self.rest.now _ (search rules)

pub returns-clause-law : goal.returns-clause-law
returns-clause-law c = PairReadsBack-from_said c.args.self.rest.now c.end.result (search rules)
