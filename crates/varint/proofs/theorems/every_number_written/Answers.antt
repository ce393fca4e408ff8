-- One to five bytes, which are read back.
use Rattle.varint.proofs.Laws.{decode_alone, length-encode}
use Rattle.varint.proofs.theorems.every_number_written.Goals as goal

pub returns : goal.returns
returns c = λ n h. ((length-encode n).0, (length-encode n).1, decode_alone n h)
