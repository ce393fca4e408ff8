-- Where the text is not read, it is no bytes, or memory for them is wanting.
use Rattle.std.proofs.Common.{rules}
use Rattle.console.proofs.Requests.{Fails-from_parsed}
use Rattle.console.proofs.command.Command.query.Goals as goal

pub returns-in_err-parse : goal.returns-in_err-parse
returns-in_err-parse c =
    let fails = Fails-from_parsed _ c.in_err-parse.field-0.0 c.in_err-parse.ensures in
    search rules
