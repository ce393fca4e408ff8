-- Each byte is read where it is written.
use Rattle.hex_text.proofs.Writing.{read_text_of}
use Rattle.hex_text.proofs.theorems.written_is_read.Goals as goal

pub returns : goal.returns
returns c = read_text_of
