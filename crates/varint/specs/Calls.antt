-- What the calls answer. Assumes nothing.
use Rattle.std.specs.Prelude.{◌≡◌, ℕ, ◌+◌, ◌<◌, ◌≤◌, List, ◌++◌, length, take, drop, Ok, Err, Result}
use Rattle.varint.specs.declared.number.Number.{Number}
use Rattle.varint.specs.declared.number.NoRoom.{NoRoom}
use Rattle.varint.specs.declared.number.ReadError.{ReadError}
use Rattle.varint.specs.declared.number.ReadError.TheVariants.{EndsEarly, Malformed}
use Rattle.varint.specs.Encode.{encode}
use Rattle.varint.specs.Decode.{Decoded, ends_early, malformed, decoded}

-- the answer of read, for the number that stands at the place
abbrev pub answer : Decoded → Result Number ReadError
answer ends_early = Err EndsEarly
answer malformed = Err Malformed
answer (decoded n k) = Ok (record { value = n; length = k })

-- buffer with bytes at the place at, over what stood there
abbrev pub placed : List ℕ → ℕ → List ℕ → List ℕ
placed buffer at bytes = take at buffer ++ (bytes ++ drop (at + length bytes) buffer)

-- n was written at the place at, its length answered; or there was no room for it,
-- and the buffer is as it was
abbrev pub Written : ℕ → ℕ → List ℕ → Result ℕ NoRoom → List ℕ → Type 0
Written n at before (Ok k) after =
    (at + length (encode n) ≤ length before)
    × (k ≡ length (encode n))
    × (after ≡ placed before at (encode n))
Written n at before (Err _) after = (length before < at + length (encode n)) × (after ≡ before)
