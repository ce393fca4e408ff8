-- What a catalogue says of a term number. Assumes nothing.
--     Entry          a kind and a value
--     integer_of e   the number that e stands for; none where e is no integer
--     Proper e       an integer has a signed 32-bit value, and any other kind the value 0
use Rattle.std.specs.Prelude.{◌≡◌, ℕ, Bool, true, false, ◌&&◌, ℤ, pos, negsuc, Some, None, Option, ◌==◌}
use Rattle.std.specs.Prelude.{int_le}
use Rattle.catalogue.specs.declared.kind.Kind.{Kind}
use Rattle.catalogue.specs.declared.kind.Kind.TheVariants.{Name, Text, Integer}

-- what a catalogue says of one term number
pub record Entry : Type 0 where
  pub kind : Kind
  pub value : ℤ

-- the entry of a number of which nothing else is said: a name
abbrev pub unlisted : Entry
unlisted = record { kind = Name; value = pos 0 }

-- the entry as lookup answers it
abbrev pub told : Entry → Kind × ℤ
told e = (e.kind, e.value)

-- the number that the entry stands for; none where it is no integer
abbrev pub integer_of : Entry → Option ℤ
integer_of e = elim e.kind [ Name ↦ None | Text ↦ None | Integer ↦ Some e.value ]

-- the largest value of an integer; the least, negsuc largest, is one further from 0
abbrev pub largest : ℕ
largest = 2147483647

-- x is 0
abbrev zero_value : ℤ → Bool
zero_value (pos n) = n == 0
zero_value (negsuc _) = false

-- the integer, where there is one, is within its limits; else the value is 0
abbrev suits : Option ℤ → ℤ → Bool
suits (Some x) _ = int_le (negsuc largest) x && int_le x (pos largest)
suits None value = zero_value value

-- e is an integer within its limits, or of another kind and its value is 0
abbrev pub is_proper : Entry → Bool
is_proper e = suits (integer_of e) e.value

-- e is proper
abbrev pub Proper : Entry → Type 0
Proper e = is_proper e ≡ true
