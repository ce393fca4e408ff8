-- What is written is read back, whatever stands behind.
use Rattle.varint.proofs.Laws.{decode-encode}
use Rattle.varint.proofs.theorems.written_is_read.Goals as goal

pub returns : goal.returns
returns c = decode-encode
