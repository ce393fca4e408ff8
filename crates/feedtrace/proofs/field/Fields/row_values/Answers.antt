-- Each turn reads a value; where none stands, none of the row is read.
use Rattle.std.proofs.Common.{refl}
use Rattle.feedtrace.proofs.Rows.{reading_begun, reading_ended, reading_more, reading_stopped}
use Rattle.feedtrace.proofs.field.Fields.row_values.Goals as goal

pub loop-value-init : goal.loop-value-init
loop-value-init c = reading_begun c.args.self.now.rest.now _ refl

pub loop-value-preserved : goal.loop-value-preserved
loop-value-preserved c =
    reading_more c.loop-value.invariant c.in_ok-value.field-0 c.number.new.self.rest.now
    c.loop-value-test.true c.in_ok-value.ensures

pub returns-in_err-value : goal.returns-in_err-value
returns-in_err-value c =
    rw c.from_residual.ensures
    (reading_stopped c.loop-value.invariant c.loop-value-test.true c.in_err-value.ensures)

pub returns : goal.returns
returns c = reading_ended c.loop-value.invariant c.loop-value-test.false
