-- What the front of a byte string says as a number. Assumes nothing.
--     span bytes      how many bytes the first number takes, up to and with the first byte below 128;
--                     0 where there is none
--     value bytes     the number that the groups of bytes make, the lowest first
--     decode bytes    the first number and its length, or why there is none
use Rattle.std.specs.Prelude.{ℕ, zero, suc, ◌+◌, ◌*◌, ◌%◌, cond, ◌&&◌, List, [], ◌∷◌, length, take, nat_le}
use Rattle.std.specs.Prelude.{nat_lt}
use Rattle.std.specs.Str.{bytes_eq}
use Rattle.varint.specs.Encode.{encode, largest}

-- the first number of a byte string: it has no last byte, it is not as it would be written,
-- or it is a value in so many bytes
pub data Decoded : Type 0 where
  ends_early : Decoded
  malformed : Decoded
  decoded : ℕ → ℕ → Decoded

-- one byte more than the rest takes, if the rest has a last byte
abbrev pub one_more : ℕ → ℕ
one_more zero = zero
one_more (suc k) = suc (suc k)

-- how many bytes the first number takes; 0 where no byte is below 128
abbrev pub span : List ℕ → ℕ
span [] = zero
span (b ∷ bs) = cond (nat_lt b 128) 1 (one_more (span bs))

-- the number that the groups make
abbrev pub value : List ℕ → ℕ
value [] = 0
value (b ∷ bs) = b % 128 + 128 * value bs

-- a number is in order if it has at most 32 bits and stands as it is written, which is its shortest form
abbrev pub judged : List ℕ → Decoded
judged bytes =
    cond (nat_le (value bytes) largest && bytes_eq (encode (value bytes)) bytes)
    (decoded (value bytes) (length bytes)) malformed

-- the first number of bs, which takes so many bytes
abbrev pub spanned : ℕ → List ℕ → Decoded
spanned zero bs = ends_early
spanned (suc k) bs = judged (take (suc k) bs)

-- the first number of a byte string
unfoldable pub decode : List ℕ → Decoded
decode bytes = spanned (span bytes) bytes
