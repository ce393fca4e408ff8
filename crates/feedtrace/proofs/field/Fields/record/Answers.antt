-- The text of a record is read as the record, since the line is.
use Rattle.std.proofs.Common.{rules}
use Rattle.feedtrace.proofs.WrittenLines.{RecordReadsBack-from_said}
use Rattle.feedtrace.proofs.field.Fields.record.Goals as goal

pub returns-in_err-kind-clause-law : goal.returns-in_err-kind-clause-law
returns-in_err-kind-clause-law c =
    RecordReadsBack-from_said c.args.self.rest.now c.from_residual.result (search rules)

pub returns-in_err-value-clause-law : goal.returns-in_err-value-clause-law
returns-in_err-value-clause-law c =
    RecordReadsBack-from_said c.args.self.rest.now _ (search rules)

pub returns-clause-law : goal.returns-clause-law
returns-clause-law c = RecordReadsBack-from_said c.args.self.rest.now c.end.result (search rules)
