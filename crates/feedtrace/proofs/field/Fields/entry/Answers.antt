-- The numbers of an entry are read as the entry, since the line is.
use Rattle.std.proofs.Common.{rules}
use Rattle.feedtrace.proofs.WrittenLines.{EntryReadsBack-from_said}
use Rattle.feedtrace.proofs.field.Fields.entry.Goals as goal

pub returns-in_err-property-clause-law : goal.returns-in_err-property-clause-law
returns-in_err-property-clause-law c =
    EntryReadsBack-from_said c.args.self.rest.now c.from_residual.result (search rules)

pub returns-in_err-first-clause-law : goal.returns-in_err-first-clause-law
returns-in_err-first-clause-law c =
    EntryReadsBack-from_said c.args.self.rest.now _ (search rules)

pub returns-clause-law : goal.returns-clause-law
returns-clause-law c = EntryReadsBack-from_said c.args.self.rest.now c.end.result (search rules)
