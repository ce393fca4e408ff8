-- A number is read of its numerals, and of nothing else. Assumes nothing.
use Rattle.std.proofs.Common.{◌≡◌, ℕ, suc, zero, ◌+◌, ◌-◌, ◌*◌, ◌≤◌, ◌<◌, ◌&&◌, ◌++◌, leb, cond}
use Rattle.std.proofs.Common.{Bool, true, false, List, [], ◌∷◌, length, replicate, Some, None, Option}
use Rattle.std.proofs.Common.{decimal, option_and_then, sym, refl, ap, subst, ◌∙◌, ⊎_elim, arith, le-leb}
use Rattle.std.proofs.Common.{leb-true, length-append}
use Rattle.std.specs.Str.Parse.{AllDigits, digits_value, digits_value_after}
use Rattle.std.specs.Char.{digit_value as value_of_digit}
use Rattle.std.proofs.lemmas.Bool.{and_from, and_parts, cases_eq, cond-true, cond_both}
use Rattle.std.proofs.lemmas.Fmt.{decimal_is_IsNumeral, decimal-digits_value}
use Rattle.std.proofs.lemmas.Str.{digit_value_digit}
use Rattle.std.proofs.lemmas.Str.Parse.{digit_from_value, numerals_by_value, tells_digits}
use Rattle.console.proofs.Numerals.{number_from_digits}
use Rattle.console.specs.Numerals.{digit_value, digit_zero, limited, number_after, number_from, ReadsNumerals}
use Rattle.console.specs.Numerals.{NumeralOf}

-- a decimal digit counts what it stands for
digit_value-digit : (c : ℕ) → value_of_digit c < 10 → digit_value c ≡ Some (value_of_digit c)
digit_value-digit c small =
    let range = digit_from_value c small in
    let counts = digit_value_digit c range in
    cond-true (leb 48 c && leb c 57) (Some (c - 48)) None
    (and_from (leb 48 c) (leb c 57) (le-leb 48 c (omega arith)) (le-leb c 57 (omega arith)))
    ∙ ap Some (omega arith)

-- digits behind those of n say the number that they write there
number_after-digits : (n : ℕ) (cs : List ℕ) → AllDigits 10 cs
    → number_after n cs ≡ Some (digits_value_after 10 n cs)
number_after-digits n [] digits = refl
number_after-digits n (c ∷ cs) digits =
    let d = value_of_digit c in
    let turned : 10 * n + d ≡ n * 10 + d = omega arith in
    ap (option_and_then (λ k. number_after (10 * n + k) cs)) (digit_value-digit c digits.0)
    ∙ number_after-digits (10 * n + d) cs digits.1
    ∙ ap (λ m. Some (digits_value_after 10 m cs)) turned

-- zeros in front change nothing
number_after-zeros : (zeros : ℕ) (cs : List ℕ)
    → number_after 0 (replicate zeros digit_zero ++ cs) ≡ number_after 0 cs
number_after-zeros zero cs = refl
number_after-zeros (suc k) cs = number_after-zeros k cs

-- a numeral has a digit
some_digit : (zeros n : ℕ) → n < 4294967296 → 0 < length (replicate zeros digit_zero ++ decimal n)
some_digit zeros n small =
    let numeral = decimal_is_IsNumeral n (omega arith) in
    omega (arith, length-append (replicate zeros digit_zero) (decimal n))

-- a numeral of a number up to most is read as the number
pub number_from-numeral : (most n : ℕ) (text : List ℕ) → most < 4294967296 → n ≤ most → NumeralOf n text
    → number_from most text ≡ Some n
number_from-numeral most n text few small written =
    let numeral = decimal_is_IsNumeral n (omega arith) in
    let low : leb n most ≡ true = le-leb n most small in
    ap (number_from most) written.1
    ∙ sym (number_from_digits most _ (some_digit written.0 n (omega arith)))
    ∙ ap (limited most) (number_after-zeros written.0 (decimal n)
    ∙ number_after-digits 0 (decimal n) numeral.0.1 ∙ ap Some numeral.1)
    ∙ rw low refl

-- text is digits, and m the number that they write behind those of n
abbrev Digits : ℕ → List ℕ → ℕ → Type 0
Digits n text m = AllDigits 10 text × (digits_value_after 10 n text ≡ m)

-- c is the digit d
abbrev IsDigit : ℕ → ℕ → Type 0
IsDigit d c = (48 ≤ c) × (c ≤ 57) × (c ≡ 48 + d)

-- only a digit counts
digit_from_counts : (c d : ℕ) (b : Bool) → leb 48 c && leb c 57 ≡ b → cond b (Some (c - 48)) None ≡ Some d
    → IsDigit d c
digit_from_counts c d true within counts =
    let bounds = and_parts (leb 48 c) (leb c 57) within in
    let is : c - 48 ≡ d = cc in
    let low = leb-true 48 c bounds.0 in
    (low, leb-true c 57 bounds.1, omega arith)
digit_from_counts c d false within counts = cc

-- where a number is read behind that of n and of a digit, it is what the digits write
Digits-from_digit : (n c m : ℕ) (cs : List ℕ) (o : Option ℕ) → ((d : ℕ) → o ≡ Some d → IsDigit d c)
    → ((k : ℕ) → number_after k cs ≡ Some m → Digits k cs m)
    → option_and_then (λ d. number_after (10 * n + d) cs) o ≡ Some m → Digits n (c ∷ cs) m
Digits-from_digit n c m cs None digit more reads = cc
Digits-from_digit n c m cs (Some d) digit more reads =
    let is = digit d refl in
    let counts = digit_value_digit c (is.0, is.1) in
    let rest = more (10 * n + d) reads in
    let turned : 10 * n + d ≡ n * 10 + value_of_digit c = omega arith in
    ((omega arith, rest.0), ap (λ k. digits_value_after 10 k cs) (sym turned) ∙ rest.1)

-- where a number is read, the text is digits, and the number is what they write
Digits-from_number_after : (text : List ℕ) (n m : ℕ) → number_after n text ≡ Some m → Digits n text m
Digits-from_number_after [] n m reads = (tt, cc)
Digits-from_number_after (c ∷ cs) n m reads =
    Digits-from_digit n c m cs (digit_value c) (λ d. digit_from_counts c d _ refl)
    (λ k. Digits-from_number_after cs k m) reads

-- behind a zero, a numeral is one of the same number
NumeralOf-zero : (text : List ℕ) → NumeralOf (digits_value 10 text) text
    → NumeralOf (digits_value 10 (digit_zero ∷ text)) (digit_zero ∷ text)
NumeralOf-zero text written = (suc written.0, ap (λ cs. digit_zero ∷ cs) written.1)

-- digits are a numeral of the number that they write
NumeralOf-from_digits : (text : List ℕ) → AllDigits 10 text → 0 < length text
    → digits_value 10 text < 4294967296 → NumeralOf (digits_value 10 text) text
NumeralOf-from_digits [] digits some small = absurd (omega arith)
NumeralOf-from_digits (c ∷ []) digits some small = (
  0,
  sym (decimal-digits_value (numerals_by_value _ tells_digits) (c ∷ []) digits some (λ _. refl)
      (omega arith)),
)
NumeralOf-from_digits (c ∷ e ∷ cs) digits some small = ⊎_elim
    (λ naught. subst (λ k. NumeralOf (digits_value 10 (k ∷ e ∷ cs)) (k ∷ e ∷ cs)) (sym naught)
    (NumeralOf-zero (e ∷ cs) (NumeralOf-from_digits (e ∷ cs) digits.1 (omega arith)
    (subst (λ k. digits_value 10 (k ∷ e ∷ cs) < 4294967296) naught small))))
    (λ other. (
      0,
      sym (decimal-digits_value (numerals_by_value _ tells_digits) (c ∷ e ∷ cs) digits some
          (λ naught. absurd (other naught)) (omega arith)),
    )) (cases_eq c digit_zero)

-- a number that is kept is the one that was read, and is at most most
limited-back : (most n : ℕ) (m : Option ℕ) → limited most m ≡ Some n → (m ≡ Some n) × (n ≤ most)
limited-back most n None kept = cc
limited-back most n (Some k) kept =
    cond_both (leb k most) (Some k) None (λ o. o ≡ Some n → (Some k ≡ Some n) × (n ≤ most))
    (λ low is. let same : k ≡ n = cc in (is, omega (arith, leb-true k most low))) (λ high none. cc) kept

-- a text of which a number is read is a numeral of it, and the number is at most most
NumeralOf-from_number_from : (most n : ℕ) (text : List ℕ) → most < 4294967296 → number_from most text ≡ Some n
    → (n ≤ most) × NumeralOf n text
NumeralOf-from_number_from most n [] few reads = cc
NumeralOf-from_number_from most n (c ∷ cs) few reads =
    let kept = limited-back most n (number_after 0 (c ∷ cs)) reads in
    let numeral = Digits-from_number_after (c ∷ cs) 0 n kept.0 in (
      kept.1,
      subst (λ k. NumeralOf k (c ∷ cs)) numeral.1
          (NumeralOf-from_digits (c ∷ cs) numeral.0 (omega arith) (omega (arith, numeral.1))),
    )

-- a number up to most is read of its numerals, and of nothing else
pub ReadsNumerals-number_from : (most : ℕ) (text : List ℕ) → most < 4294967296
    → ReadsNumerals most text (number_from most text)
ReadsNumerals-number_from most text few n =
    (NumeralOf-from_number_from most n text few, λ w. number_from-numeral most n text few w.0 w.1)
