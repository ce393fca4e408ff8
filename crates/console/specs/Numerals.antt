-- Numbers, as decimal digits. Assumes nothing.
--     number_after n text      n with the digits of text behind its own
--     number_from most text    the number that text says, if it says one up to most
--     NumeralOf n text         text is the decimal digits of n, maybe with zeros in front
use Rattle.std.specs.Prelude.{◌≡◌, ℕ, ◌+◌, ◌-◌, ◌*◌, ◌≤◌, ◌↔◌, cond, ◌&&◌, List, [], ◌∷◌, ◌++◌, replicate}
use Rattle.std.specs.Prelude.{Some, None, Option, nat_le, nat_lt, option_and_then, decimal}

-- the greatest length that a command may give
abbrev pub most_length : ℕ
most_length = 1000000

-- what the decimal digit c counts; none where c is no digit
abbrev pub digit_value : ℕ → Option ℕ
digit_value c = cond (nat_le 48 c && nat_le c 57) (Some (c - 48)) None

-- n with the digits of text behind its own; none where something else stands in text
abbrev pub number_after : ℕ → List ℕ → Option ℕ
number_after n [] = Some n
number_after n (c ∷ cs) = option_and_then (λ d. number_after (10 * n + d) cs) (digit_value c)

-- n, unless it is greater than most
abbrev pub limited : ℕ → Option ℕ → Option ℕ
limited most None = None
limited most (Some n) = cond (nat_le n most) (Some n) None

-- the number that text says: decimal digits, at least one; none where it says none, or one greater than most
abbrev pub number_from : ℕ → List ℕ → Option ℕ
number_from most [] = None
number_from most (c ∷ cs) = limited most (number_after 0 (c ∷ cs))

-- the number n with the digit c behind its own; none where c is no digit, or the number has more than 32 bits
abbrev pub followed : ℕ → ℕ → Option ℕ
followed n c =
    option_and_then (λ d. cond (nat_lt (10 * n + d) 4294967296) (Some (10 * n + d)) None) (digit_value c)

-- the digit 0
abbrev pub digit_zero : ℕ
digit_zero = 48

-- text is a numeral of n: the decimal digits that are written of n, behind any number of zeros
abbrev pub NumeralOf : ℕ → List ℕ → Type 0
NumeralOf n text = (zeros : ℕ) × (text ≡ replicate zeros digit_zero ++ decimal n)

-- n is what is read of text exactly if n is at most most and text is a numeral of n; of all else none is read
abbrev pub ReadsNumerals : ℕ → List ℕ → Option ℕ → Type 0
ReadsNumerals most text r = (n : ℕ) → (r ≡ Some n) ↔ ((n ≤ most) × NumeralOf n text)
