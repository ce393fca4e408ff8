use Rattle.std.proofs.Common.{subst}
use Rattle.varint.specs.Encode.{encode}
use Rattle.query.specs.Codes.{number_of}
use Rattle.query.specs.Writes.{Puts}
use Rattle.query.proofs.Writes.{puts_append}
use Rattle.query.proofs.write.NodeCoded.put.Goals as goal

pub returns : goal.returns
returns c =
    puts_append _ _ _ _ _ c.requires.room
    (subst (λ k. Puts (encode (number_of k)) c.args.writer.now c.put.new.writer) c.kind.ensures c.put.ensures)
    c.put_operands.ensures
