-- A text stands for bytes where it is read as some, and then for what its words make.
use Rattle.std.proofs.Common.{Some, sym, ap, ◌∙◌}
use Rattle.std.proofs.lemmas.Result.{err_from_is_err_and}
use Rattle.hex_text.proofs.Words.{none_read, some_read}
use Rattle.hex_text.proofs.parse.parse.Goals as goal

pub returns-then-not-is_hex : goal.returns-then-not-is_hex
returns-then-not-is_hex c = none_read c.args.text.now (sym c.is_hex.ensures ∙ c.if-not-is_hex.true)

pub returns-in_err-bytes_of : goal.returns-in_err-bytes_of
returns-in_err-bytes_of c =
    let p = err_from_is_err_and c.from_residual.result c.from_residual.ensures.1
    in rw (p.1, p.2) (sym c.is_hex.ensures ∙ c.if-not-is_hex.false)

pub returns : goal.returns
returns c =
    some_read c.args.text.now (sym c.is_hex.ensures ∙ c.if-not-is_hex.false)
    ∙ ap Some (sym c.in_ok-bytes_of.ensures)
