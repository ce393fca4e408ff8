-- What parse answers. Assumes nothing.
use Rattle.std.specs.Prelude.{◌≡◌, ℕ, true, List, is_some, Some, None, Ok, Err, vec_items, Option, Result}
use Rattle.std.specs.Prelude.{Vec}
use Rattle.std.specs.declared.alloc.Global.{Global}
use Rattle.hex_text.specs.declared.parse.ParseError.{ParseError}
use Rattle.hex_text.specs.declared.parse.ParseError.TheVariants.{NotHex, Memory}

-- the text stands for the bytes of v; or it stands for none; or it stands for some that find no memory
abbrev pub Parsed : Option (List ℕ) → Result (Vec ℕ Global) ParseError → Type 0
Parsed text (Ok v) = text ≡ Some (vec_items v)
Parsed text (Err NotHex) = text ≡ None
Parsed text (Err Memory) = is_some text ≡ true
