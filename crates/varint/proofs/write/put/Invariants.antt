-- The bytes before the index and those that the rest takes are the bytes of n.
use Rattle.varint.proofs.Writing.{Left}
use Rattle.varint.proofs.write.put.Given as goal

abbrev pub invariant-loop-byte : goal.invariant-loop-byte
invariant-loop-byte l = Left l.n l.rest l.byte-index l.out
