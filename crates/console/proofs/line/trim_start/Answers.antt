use Rattle.std.proofs.lemmas.Str.Ascii.{trim_ascii_start_is}
use Rattle.console.proofs.line.trim_start.Goals as goal

pub returns : goal.returns
returns c = trim_ascii_start_is _ _ c.trim_ascii_start.ensures.value
