-- Laws of numbers: what the digits still to come can say. Assumes nothing.
use Rattle.std.proofs.Common.{◌≡◌, ℕ, ◌+◌, ◌*◌, ◌<◌, leb, ltb, cond, List, [], ◌∷◌, length, Some, None}
use Rattle.std.proofs.Common.{Option, sym, refl, arith, option_and_then}
use Rattle.std.proofs.lemmas.Bool.{cond-false, cond_both, lt-leb, ltb-false}
use Rattle.std.specs.Option.{MatchOption}
use Rattle.console.proofs.Folds.{folded}
use Rattle.console.specs.Numerals.{digit_value, followed, limited, number_after, number_from}

-- what follows a digit says none, if it does so behind each digit
limited_given : (most n : ℕ) (cs : List ℕ) (m : Option ℕ)
    → ((d : ℕ) → limited most (number_after (10 * n + d) cs) ≡ None)
    → limited most (option_and_then (λ d. number_after (10 * n + d) cs) m) ≡ None
limited_given most n cs None none = refl
limited_given most n cs (Some d) none = none d

-- no digit makes a number less
limited_great : (most : ℕ) (cs : List ℕ) (n : ℕ) → most < n → limited most (number_after n cs) ≡ None
limited_great most [] n h = cond-false (leb n most) (Some n) None (lt-leb n most h)
limited_great most (c ∷ cs) n h =
    limited_given most n cs (digit_value c) (λ d. limited_great most cs (10 * n + d) (omega arith))

-- a digit takes the number further, or past most, where it has no room
limited_digit : (most n : ℕ) (cs : List ℕ) (m : Option ℕ) → most < 4294967296
    → ((k : ℕ) → limited most (folded followed k cs) ≡ limited most (number_after k cs))
    → limited most (option_and_then (λ k. folded followed k cs)
    (option_and_then (λ d. cond (ltb (10 * n + d) 4294967296) (Some (10 * n + d)) None) m))
    ≡ limited most (option_and_then (λ d. number_after (10 * n + d) cs) m)
limited_digit most n cs None few more = refl
limited_digit most n cs (Some d) few more =
    cond_both (ltb (10 * n + d) 4294967296) (Some (10 * n + d)) None
    (λ o. limited most (option_and_then (λ k. folded followed k cs) o)
    ≡ limited most (number_after (10 * n + d) cs)) (λ _. more (10 * n + d))
    (λ full. sym (limited_great most cs (10 * n + d) (omega (arith, ltb-false))))

-- with 32 bits for a number, digits say the same number up to most
pub limited_folded : (most : ℕ) → most < 4294967296 → (cs : List ℕ) (n : ℕ)
    → limited most (folded followed n cs) ≡ limited most (number_after n cs)
limited_folded most few [] n = refl
limited_folded most few (c ∷ cs) n = limited_digit most n cs (digit_value c) few (limited_folded most few cs)

-- digits, at least one, say their number
pub number_from_digits : (most : ℕ) (cs : List ℕ) → 0 < length cs
    → limited most (number_after 0 cs) ≡ number_from most cs
number_from_digits most [] some = absurd (omega arith)
number_from_digits most (c ∷ cs) some = refl

-- what is kept of a number, if each that is tested is kept up to most
pub limited-from_kept : (most : ℕ) (m r : Option ℕ) (B : ℕ → Type 0)
    → ((n : ℕ) → B n → r ≡ cond (leb n most) (Some n) None) → MatchOption m (r ≡ None) B → r ≡ limited most m
limited-from_kept most None r B tests kept = kept
limited-from_kept most (Some n) r B tests kept = tests n kept
