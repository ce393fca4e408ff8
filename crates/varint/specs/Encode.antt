-- How a number is written: seven bits a byte, the lowest group first. Assumes nothing.
--     groups k n    n in groups of seven bits, with at most k bytes before the last
--     encode n      the bytes of n, a number of 32 bits
--     largest       the largest number that is written
--     most_bytes    the most bytes that a number takes
use Rattle.std.specs.Prelude.{ℕ, zero, suc, ◌+◌, ◌/◌, ◌%◌, cond, List, [], ◌∷◌, nat_lt}

-- the largest number that is written
abbrev pub largest : ℕ
largest = 4294967295

-- the most bytes that a number takes
abbrev pub most_bytes : ℕ
most_bytes = 5

-- n in groups of seven bits: a group with more behind it is written with its top bit set
abbrev pub groups : ℕ → ℕ → List ℕ
groups zero n = n ∷ []
groups (suc k) n = cond (nat_lt n 128) (n ∷ []) ((128 + n % 128) ∷ groups k (n / 128))

-- the bytes of n: five groups hold every number of 32 bits
unfoldable pub encode : ℕ → List ℕ
encode n = groups 4 n
