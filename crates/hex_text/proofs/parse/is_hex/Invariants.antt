-- The text stands for bytes exactly if what is left of it does.
use Rattle.std.proofs.Common.{◌≡◌, length, is_some}
use Rattle.hex_text.specs.Reading.{read_text}
use Rattle.hex_text.proofs.parse.is_hex.Given as goal

abbrev pub invariant-loop-after : goal.invariant-loop-after
invariant-loop-after l = is_some (read_text l.rest) ≡ is_some (read_text l.text)

abbrev pub decreases-loop-after : goal.decreases-loop-after
decreases-loop-after l = length l.rest
