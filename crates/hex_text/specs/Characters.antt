-- The characters in a text of bytes: the space and the hexadecimal digits. Assumes nothing.
use Rattle.std.specs.Prelude.{ℕ, ◌+◌, ◌-◌, Bool, cond, ◌&&◌, Some, None, Option, nat_le, nat_lt}

-- what stands between two bytes
abbrev pub space : ℕ
space = 32

-- c is from low to high
abbrev pub between : ℕ → ℕ → ℕ → Bool
between low high c = nat_le low c && nat_le c high

-- what c counts: 0 to 9 as 0 to 9, A to F and a to f as 10 to 15; none where c is no digit
abbrev pub digit_value : ℕ → Option ℕ
digit_value c =
    cond (between 48 57 c) (Some (c - 48))
    (cond (between 65 70 c) (Some (c - 55)) (cond (between 97 102 c) (Some (c - 87)) None))

-- the capital digit that counts n, a number below 16
abbrev pub digit_of : ℕ → ℕ
digit_of n = cond (nat_lt n 10) (48 + n) (55 + n)
