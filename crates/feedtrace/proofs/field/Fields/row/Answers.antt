-- The text of a triple is read as the triple, since the line is.
use Rattle.std.proofs.Common.{rules}
use Rattle.feedtrace.proofs.WrittenLines.{RowReadsBack-from_said}
use Rattle.feedtrace.proofs.field.Fields.row.Goals as goal

pub returns-in_err-triple-clause-law : goal.returns-in_err-triple-clause-law
returns-in_err-triple-clause-law c =
    RowReadsBack-from_said c.args.self.rest.now c.from_residual.result (search rules)

pub returns-clause-law : goal.returns-clause-law
returns-clause-law c = RowReadsBack-from_said c.args.self.rest.now c.end.result (search rules)
