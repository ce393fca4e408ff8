-- The entries that are computed from the number alone. Assumes nothing.
use Rattle.std.specs.Prelude.{ℕ, cond, ◌&&◌, pos, ◌-ℤ◌, nat_le}
use Rattle.catalogue.specs.declared.kind.Kind.TheVariants.{Integer}
use Rattle.catalogue.specs.Entries.{Entry, unlisted}

-- the least and the largest number of an integer, and the number of the integer 0
abbrev pub first_integer : ℕ
first_integer = 500001

abbrev pub last_integer : ℕ
last_integer = 1000000

abbrev pub zero_at : ℕ
zero_at = 750001

-- the integer that is computed from the number n
abbrev pub integer_at : ℕ → Entry
integer_at n = record { kind = Integer; value = pos n -ℤ pos zero_at }

-- the entry of the number n: integers in a row, and names before and after them
abbrev pub inlined : ℕ → Entry
inlined n = cond (nat_le first_integer n && nat_le n last_integer) (integer_at n) unlisted
