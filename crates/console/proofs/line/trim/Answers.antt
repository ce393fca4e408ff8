use Rattle.std.proofs.Common.{refl}
use Rattle.std.proofs.lemmas.Str.Ascii.{trim_ascii_is}
use Rattle.console.specs.Words.{unindented}
use Rattle.console.proofs.line.trim.Goals as goal

pub returns : goal.returns
returns c = trim_ascii_is _ _ (unindented c.args.text.now) refl c.trim_ascii.ensures.value
