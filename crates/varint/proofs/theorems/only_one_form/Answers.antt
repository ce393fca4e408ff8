-- What is read as a number is what is written for it.
use Rattle.varint.proofs.Laws.{take_decoded}
use Rattle.varint.proofs.theorems.only_one_form.Goals as goal

pub returns : goal.returns
returns c = take_decoded
