-- Which failure an error of reading is. Assumes nothing.
use Rattle.hex_text.specs.declared.parse.ParseError.{ParseError}
use Rattle.hex_text.specs.declared.parse.ParseError.TheVariants as parse
use Rattle.query.specs.declared.error.ReadError.{ReadError}
use Rattle.query.specs.declared.error.ReadError.TheVariants as read
use Rattle.console.specs.declared.expected.Expected.{Expected}
use Rattle.console.specs.declared.expected.Expected.TheVariants as expected
use Rattle.console.specs.declared.failure.Failure.{Failure}
use Rattle.console.specs.declared.failure.Failure.TheVariants as failure

-- what is expected where a text is not read as bytes
abbrev pub expected_for : ParseError → Expected
expected_for parse.NotHex = expected.Bytes
expected_for parse.Memory = expected.Memory

-- the failure where bytes are not read as a query
abbrev pub failure_for : ReadError → Failure
failure_for (read.Refused e) = failure.Refused e
failure_for read.Memory = failure.Expected expected.Memory
