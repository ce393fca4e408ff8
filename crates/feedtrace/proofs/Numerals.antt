-- Laws of numbers with a sign. Assumes nothing.
use Rattle.std.proofs.Common.{◌≡◌, ℕ, suc, ◌+◌, false, List, [], ◌∷◌, length, ℤ, pos, negsuc, Some, Option}
use Rattle.std.proofs.Common.{decimal, refl, ap, ◌∙◌, arith, ne_eqb, one-add, append-nil, sym}
use Rattle.std.proofs.lemmas.Bool.{cond-false}
use Rattle.std.proofs.lemmas.Fmt.{decimal_is_IsNumeral}
use Rattle.std.proofs.lemmas.Str.Parse.{digit_from_value}
use Rattle.std.specs.Fmt.{signed_decimal}
use Rattle.std.specs.Str.Parse.{AllDigits}
use Rattle.console.proofs.Decimals.{number_from-numeral}
use Rattle.console.proofs.Words.{unindented-decimal, word_length-decimal}
use Rattle.console.specs.Words.{unindented, word_length}
use Rattle.feedtrace.specs.Numerals.{above, below, minus, most_above, most_below, negative, signed_from}
use Rattle.feedtrace.specs.WrittenLines.{SignedFits, SignedReadsBack}

-- no minus stands in front of digits
negative-digits : (ds : List ℕ) → AllDigits 10 ds → negative ds ≡ false
negative-digits [] digits = refl
negative-digits (c ∷ cs) digits =
    let range = digit_from_value c digits.0 in
    ne_eqb c minus (λ is. omega arith)

-- what is written of a number with its sign is read as the number
pub signed_from-signed_decimal : (z : ℤ) → SignedFits z → signed_from (signed_decimal z) ≡ Some z
signed_from-signed_decimal (pos n) small =
    let numeral = decimal_is_IsNumeral n (omega arith) in
    cond-false (negative (decimal n)) _ _ (negative-digits (decimal n) numeral.0.1)
    ∙ ap above (number_from-numeral most_above n (decimal n) (omega arith) small (0, refl))
signed_from-signed_decimal (negsuc n) small =
    ap below (number_from-numeral most_below (suc n) (decimal (suc n)) (omega arith) (omega arith) (0, refl))

-- so a number with its sign is read of what is written of it
pub SignedReadsBack-from_said : (text : List ℕ) (r : Option ℤ) → r ≡ signed_from text → SignedReadsBack text r
SignedReadsBack-from_said text r said z small written =
    said ∙ ap signed_from written ∙ signed_from-signed_decimal z small

-- it is one word
pub word_length-signed_decimal : (z : ℤ) → SignedFits z
    → word_length (signed_decimal z) ≡ length (signed_decimal z)
word_length-signed_decimal (pos n) small = word_length-decimal n (omega arith)
word_length-signed_decimal (negsuc n) small =
    ap (λ k. 1 + k) (word_length-decimal (suc n) (omega arith)) ∙ one-add (length (decimal (suc n)))

-- and no white space stands in front of it
pub unindented-signed_decimal : (z : ℤ) → SignedFits z → unindented (signed_decimal z) ≡ signed_decimal z
unindented-signed_decimal (pos n) small =
    ap unindented (sym (append-nil (decimal n))) ∙ unindented-decimal n [] (omega arith)
    ∙ append-nil (decimal n)
unindented-signed_decimal (negsuc n) small = refl
