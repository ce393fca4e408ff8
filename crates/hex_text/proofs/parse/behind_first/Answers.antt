-- A byte is two digits with a space or the end behind them.
use Rattle.std.proofs.Common.{◌≡◌, ◌&&◌, eqb, false, get_or, is_some, arith, rules, tests}
use Rattle.hex_text.specs.Characters.{space}
use Rattle.hex_text.specs.Reading.{parted}
use Rattle.hex_text.specs.Words.{word_value}
use Rattle.hex_text.proofs.Reading.{decided, read_pair_some}
use Rattle.hex_text.proofs.parse.behind_first.Goals.{then-is_some, else-is_some}
use Rattle.hex_text.proofs.parse.behind_first.Goals as goal

pub returns : goal.returns
returns c =
    let text = c.args.text.now
    in let word = c.in_ok-word.word.now
    in let rest = c.in_ok-word.rest
    in let split = c.in_ok-word.ensures.cases
    in let none : eqb (get_or text 0 0) space ≡ false = search (rules, tests)
    in let is : c.if-is_some.then_some ≡ (is_some (word_value word) && parted rest.now)
    = elim c.if-is_some.branch [
      | then-is_some w ↦ search (rules, tests)
      | else-is_some w ↦ search (rules, tests)
    ]
    in decided text rest c.if-is_some.then_some c.then_some.result c.then_some.ensures
    (omega (arith, split.0)) (omega (arith, split.0, split.4))
    (read_pair_some text word rest.now _ split none is)
