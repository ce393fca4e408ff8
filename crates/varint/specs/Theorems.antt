-- What this crate proves of numbers in seven-bit groups. Assumes nothing.
use Rattle.std.specs.Prelude.{◌≡◌, ℕ, ◌≤◌, List, ◌++◌, length, take}
use Rattle.varint.specs.Encode.{encode, largest, most_bytes}
use Rattle.varint.specs.Decode.{decode, decoded}

-- reading what was written gives the number and its length, whatever stands behind
abbrev pub WrittenIsRead : Type 0
WrittenIsRead = (n : ℕ) (rest : List ℕ) → n ≤ largest
    → decode (encode n ++ rest) ≡ decoded n (length (encode n))

-- what is read as n is what is written for n: no two byte strings are the same number
abbrev pub OnlyOneForm : Type 0
OnlyOneForm = (bytes : List ℕ) (n k : ℕ) → decode bytes ≡ decoded n k
    → (n ≤ largest) × (take k bytes ≡ encode n)

-- every number of 32 bits is written, in one to five bytes
abbrev pub EveryNumberWritten : Type 0
EveryNumberWritten = (n : ℕ) → n ≤ largest
    → (1 ≤ length (encode n)) × (length (encode n) ≤ most_bytes)
    × (decode (encode n) ≡ decoded n (length (encode n)))
