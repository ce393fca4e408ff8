-- The bits of a number tell how many groups it has.
use Rattle.std.proofs.Common.{arith, rules}
use Rattle.varint.proofs.Groups.{length-encode_bits}
use Rattle.varint.proofs.write.length_of.Goals as goal

pub returns : goal.returns
returns c =
    let bits = c.ilog2.ensures
    in length-encode_bits c.args.n c.max.result c.ilog2.result (search rules) (omega arith)
    bits.bound bits.power_le bits.next_power_gt
