-- Each turn writes a byte; the last one leaves no rest.
use Rattle.std.proofs.Common.{arith}
use Rattle.varint.proofs.Writing.{left_all, left_last, left_more}
use Rattle.varint.proofs.write.put.Goals as goal
use Rattle.varint.proofs.write.put.Goals.{then-rest-lt-GROUP, else-rest-lt-GROUP}

pub loop-byte-preserved : goal.loop-byte-preserved
loop-byte-preserved c =
    let left = c.loop-byte.invariant
    in elim c.if-rest-lt-GROUP.branch [
      | then-rest-lt-GROUP w ↦ left_last left _ _ (omega arith) (omega arith) (omega arith) (omega arith)
      | else-rest-lt-GROUP w ↦
          left_more left _ _ (omega arith) (omega arith) (omega arith) (omega arith) (omega arith)
    ]

pub returns : goal.returns
returns c = left_all c.loop-byte.invariant (omega arith)
