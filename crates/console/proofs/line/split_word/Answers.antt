-- The word ends within the text.
use Rattle.std.proofs.Common.{◌==◌, not, arith}
use Rattle.std.proofs.lemmas.List.Sums.{prefix_len-le-length}
use Rattle.hex_text.specs.Characters.{space}
use Rattle.console.proofs.line.split_word.Goals as goal

pub split_at-requires : goal.split_at-requires
split_at-requires c = omega (arith, prefix_len-le-length (λ x. not (x == space)) c.args.text.now)
