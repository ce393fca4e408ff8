-- The values before the index are read.
use Rattle.feedtrace.proofs.Rows.{Reading}
use Rattle.feedtrace.proofs.field.Fields.row_values.Given as goal

abbrev pub invariant-loop-value : goal.invariant-loop-value
invariant-loop-value l = Reading l.initial.self.rest.now l.value-items l.value-index l.self.rest.now
