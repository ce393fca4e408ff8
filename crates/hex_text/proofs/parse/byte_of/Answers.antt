-- A digit counts what the library says that it does, and two of them make a byte.
use Rattle.std.proofs.Common.{◌<◌, get_or, Some, sym, ap, ◌∙◌, arith}
use Rattle.std.proofs.lemmas.Result.{Ok-from_Ok_iff}
use Rattle.std.specs.Result.{result_ok}
use Rattle.hex_text.specs.Characters.{digit_value}
use Rattle.hex_text.specs.Reading.{byte_value}
use Rattle.hex_text.proofs.Digits.{byte_value-none, digit_none, digit_some, word_value_two}
use Rattle.hex_text.proofs.parse.byte_of.Goals as goal

pub returns-in_err-low : goal.returns-in_err-low
returns-in_err-low c =
    let word = c.args.word.now
    in let low = digit_none (get_or word 1 0) _ c.from-2.ensures c.in_err-low.ensures.value
    in c.from_residual-in_err-low.ensures
    ∙ sym (word_value_two word (omega arith) ∙ ap (byte_value (digit_value (get_or word 0 0))) low
    ∙ byte_value-none (digit_value (get_or word 0 0)))

pub returns : goal.returns
returns c =
    let word = c.args.word.now
    in let high = digit_some (get_or word 0 0) _ c.in_ok-high.high c.from.ensures c.in_ok-high.ensures.value
    in let low = digit_some (get_or word 1 0) _ c.in_ok-low.low c.from-2.ensures c.in_ok-low.ensures.value
    in let high_less : c.in_ok-high.high < 16 = omega (arith, c.in_ok-high.ensures.value)
    in let low_less : c.in_ok-low.low < 16 = omega (arith, c.in_ok-low.ensures.value)
    in c.ok.ensures.value ∙ ap result_ok (Ok-from_Ok_iff _ _ _ c.try_from.ensures (omega arith))
    ∙ sym (word_value_two word (omega arith) ∙ ap (λ m. byte_value m (digit_value (get_or word 1 0))) high
    ∙ ap (byte_value (Some c.in_ok-high.high)) low)
