-- What this crate proves of bytes and their text. Assumes nothing.
use Rattle.std.specs.Prelude.{◌≡◌, ℕ, ◌<◌, List, Some, slice_index}
use Rattle.hex_text.specs.Reading.{read_text}
use Rattle.hex_text.specs.Writing.{text_of}

-- reading the text of bytes gives the bytes
abbrev pub WrittenIsRead : Type 0
WrittenIsRead = (bytes : List ℕ) → ((i : ℕ) → slice_index bytes i < 256)
    → read_text (text_of bytes) ≡ Some bytes
