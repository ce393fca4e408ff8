-- What the line asks, its first word and the rest of it ask.
use Rattle.std.proofs.Common.{sym, subst}
use Rattle.console.proofs.Requests.{asked-from_parts, Meets-from_err}
use Rattle.console.specs.Requests.{Asks}
use Rattle.console.proofs.command.Command.parse.Goals as goal

pub returns-in_err-of : goal.returns-in_err-of
returns-in_err-of c =
    let asks = asked-from_parts c.args.line.now _ _ _ c.trim.ensures c.split_word.ensures.first
    c.split_word.ensures.rest (sym c.if-is_absent.ensures)
    in Meets-from_err _ _ _ c.from_residual.ensures.1 (rw asks c.in_err-of.ensures)

pub returns : goal.returns
returns c =
    let asks = asked-from_parts c.args.line.now _ _ _ c.trim.ensures c.split_word.ensures.first
    c.split_word.ensures.rest (sym c.if-is_absent.ensures)
    in subst (λ m. Asks m c.in_ok-of.field-0) (sym asks) c.in_ok-of.ensures
