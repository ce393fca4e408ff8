-- Where the first number of a byte string ends. Assumes nothing.
use Rattle.std.specs.Prelude.{◌≡◌, ℕ, ◌-◌, ◌<◌, Bool, ◌&&◌, List, length, take, ◌==◌, nat_lt, slice_index}
use Rattle.varint.specs.Decode.{span}

-- number is the first number of bytes, which has its last byte there
pub record IsFirst (bytes number : List ℕ) : Type 0 where
  pub ends : 0 < span bytes
  pub front : number ≡ take (span bytes) bytes

-- the number has more than one byte, and the last one adds nothing to it
abbrev pub padded : List ℕ → Bool
padded number = nat_lt 1 (length number) && slice_index number (length number - 1) == 0
