-- Numbers with a sign, as decimal digits. Assumes nothing.
use Rattle.std.specs.Prelude.{ℕ, Bool, false, cond, List, [], ◌∷◌, drop, ℤ, pos, neg_ℤ, Some, None, Option}
use Rattle.std.specs.Prelude.{◌==◌}
use Rattle.console.specs.Numerals.{number_from}

-- the greatest number that a line may give
abbrev pub most_number : ℕ
most_number = 4294967295

-- the greatest number behind a minus
abbrev pub most_below : ℕ
most_below = 2147483648

-- the greatest number with a sign
abbrev pub most_above : ℕ
most_above = 2147483647

-- minus n
abbrev pub below : Option ℕ → Option ℤ
below None = None
below (Some n) = Some (neg_ℤ (pos n))

-- plus n
abbrev pub above : Option ℕ → Option ℤ
above None = None
above (Some n) = Some (pos n)

-- what stands before a number below 0
abbrev pub minus : ℕ
minus = 45

-- a minus stands first
abbrev pub negative : List ℕ → Bool
negative [] = false
negative (c ∷ _) = c == minus

-- the number that text says, below 0 behind a minus; none where it has more than 32 bits with its sign
abbrev pub signed_from : List ℕ → Option ℤ
signed_from text =
    cond (negative text) (below (number_from most_below (drop 1 text))) (above (number_from most_above text))
