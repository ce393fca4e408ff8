-- The text of the bytes before the index stands written.
use Rattle.std.specs.Fmt.{IsPlainFormatter, HasWritten}
use Rattle.std.proofs.Common.{take}
use Rattle.hex_text.specs.Writing.{text_of}
use Rattle.hex_text.proofs.text.HexTextDisplay.fmt.Given as goal

abbrev pub invariant-loop-i : goal.invariant-loop-i
invariant-loop-i g l =
    IsPlainFormatter l.initial.f
    → HasWritten g.W.Write.write_str_gives l.initial.f (text_of (take l.i l.self.bytes.now)) l.f
