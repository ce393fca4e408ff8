-- Laws of words: what a word with a text behind it is. Assumes nothing.
use Rattle.std.proofs.Common.{◌≡◌, ℕ, ◌+◌, ◌-◌, ◌≤◌, ◌<◌, ◌++◌, ◌==◌, cond, not, false, List, []}
use Rattle.std.proofs.Common.{◌∷◌, length, take, drop, get_or, reverse}
use Rattle.std.proofs.Common.{refl, sym, ap, ◌∙◌, arith, ne_eqb, eq-eqb, add-zero, decimal, eqb, one-add}
use Rattle.std.proofs.lemmas.List.{get_or-drop, get_or-reverse, get_or-take, length-drop, length-reverse}
use Rattle.std.proofs.lemmas.List.{length-take, length-take-le, take_all}
use Rattle.std.proofs.lemmas.List.Sums.{prefix_len_is, prefix_len_stops}
use Rattle.std.proofs.Math.Seq.{take-append_seam, drop-append_seam}
use Rattle.std.proofs.lemmas.Bool.{cond-true}
use Rattle.std.proofs.lemmas.Fmt.{decimal_is_IsNumeral}
use Rattle.std.proofs.lemmas.Bool.Decides.{nat_tests}
use Rattle.std.proofs.lemmas.List.Folds.{prefix_len-append}
use Rattle.std.proofs.lemmas.Str.Parse.{digit_from_value}
use Rattle.std.specs.Char.{is_ascii_whitespace}
use Rattle.std.specs.List.{prefix_len, suffix_len}
use Rattle.std.specs.Str.Parse.{AllDigits}
use Rattle.console.specs.Words.{after_word, trimmed, unindented, untailed, word, word_length}
use Rattle.hex_text.specs.Characters.{space}

module _ (w rest : List ℕ) (whole : word_length w ≡ length w) (ends : word_length rest ≡ 0) where
  -- the word ends where the rest begins
  word_length-append : word_length (w ++ rest) ≡ length w
  word_length-append =
      prefix_len-append (λ c. not (c == space)) w rest
      ∙ cond-true (eqb (word_length w) (length w)) _ _ (eq-eqb _ _ whole)
      ∙ ap (λ n. length w + n) ends ∙ add-zero (length w)

  -- the first word is the word
  pub word-append : word (w ++ rest) ≡ w
  word-append = ap (λ n. take n (w ++ rest)) word_length-append ∙ take-append_seam w rest

  -- what follows the first word is the rest
  pub after_word-append : after_word (w ++ rest) ≡ rest
  after_word-append = ap (λ n. drop n (w ++ rest)) word_length-append ∙ drop-append_seam w rest

-- digits are one word
word_length-digits : (ds : List ℕ) → AllDigits 10 ds → word_length ds ≡ length ds
word_length-digits [] digits = refl
word_length-digits (c ∷ cs) digits =
    let range = digit_from_value c digits.0 in
    let other : (c == space) ≡ false = ne_eqb c space (λ is. omega arith) in
    ap (λ b. cond (not b) (1 + word_length cs) 0) other ∙ ap (λ n. 1 + n) (word_length-digits cs digits.1)
    ∙ one-add (length cs)

-- the digits of a number are one word
pub word_length-decimal : (n : ℕ) → n < 4294967296 → word_length (decimal n) ≡ length (decimal n)
word_length-decimal n small = word_length-digits (decimal n) (decimal_is_IsNumeral n (omega arith)).0.1

-- no digit is white space
is_ascii_whitespace-digit : (c : ℕ) → 48 ≤ c → is_ascii_whitespace c ≡ false
is_ascii_whitespace-digit c low = grind (arith, nat_tests)

-- no white space stands in front of digits
unindented-digits : (ds rest : List ℕ) → AllDigits 10 ds → 0 < length ds
    → unindented (ds ++ rest) ≡ ds ++ rest
unindented-digits [] rest digits some = absurd (omega arith)
unindented-digits (c ∷ cs) rest digits some =
    let range = digit_from_value c digits.0 in
    ap (λ b. drop (cond b (1 + prefix_len is_ascii_whitespace (cs ++ rest)) 0) (c ∷ (cs ++ rest)))
    (is_ascii_whitespace-digit c (omega arith))

-- no white space stands in front of the digits of a number
pub unindented-decimal : (n : ℕ) (rest : List ℕ) → n < 4294967296
    → unindented (decimal n ++ rest) ≡ decimal n ++ rest
unindented-decimal n rest small =
    let numeral = decimal_is_IsNumeral n (omega arith) in
    unindented-digits (decimal n) rest numeral.0.1 numeral.0.0

-- a space in front is white space
pub unindented-space : (text : List ℕ) → unindented (space ∷ text) ≡ unindented text
unindented-space text = ap (λ n. drop n (space ∷ text)) (one-add (prefix_len is_ascii_whitespace text))

-- white space at the ends goes at once: the text between them stays as it is
module _ (text : List ℕ) where
  -- the text without the white space in front
  abbrev kept : List ℕ
  kept = unindented text

  -- how much of that stands before the white space behind
  abbrev lasts : ℕ
  lasts = length kept - suffix_len is_ascii_whitespace kept

  -- what is kept in front is no white space
  first_kept : 0 < length kept → is_ascii_whitespace (get_or kept 0 0) ≡ false
  first_kept some =
      let n = prefix_len is_ascii_whitespace text in
      ap is_ascii_whitespace (get_or-drop n text 0 0 ∙ ap (λ i. get_or text i 0) (add-zero n))
      ∙ prefix_len_stops is_ascii_whitespace text 0 (omega (arith, some, length-drop n text))

  -- what is kept behind is no white space
  last_kept : 0 < lasts → is_ascii_whitespace (get_or kept (lasts - 1) 0) ≡ false
  last_kept some =
      let k = suffix_len is_ascii_whitespace kept in
      let inside : k < length kept = omega (arith, some) in
      let at : lasts - 1 ≡ length kept - 1 - k = omega (arith, inside) in
      ap (λ i. is_ascii_whitespace (get_or kept i 0)) at
      ∙ ap is_ascii_whitespace (sym (get_or-reverse kept k 0 inside))
      ∙ prefix_len_stops is_ascii_whitespace (reverse kept) 0 (omega (arith, inside, length-reverse kept))

  -- no white space stands in front of the trimmed text
  no_front : prefix_len is_ascii_whitespace (trimmed text) ≡ 0
  no_front =
      prefix_len_is is_ascii_whitespace (trimmed text) 0 0 (omega arith) (λ k l. absurd (omega arith))
      (λ some. let long = length-take lasts kept in
      ap is_ascii_whitespace (get_or-take lasts kept 0 0 (omega (arith, some, long)))
      ∙ first_kept (omega (arith, some, long)))

  -- nor behind it
  no_back : suffix_len is_ascii_whitespace (trimmed text) ≡ 0
  no_back =
      let long : length (trimmed text) ≡ lasts = length-take-le lasts kept (omega arith) in
      let turned = length-reverse (trimmed text) in
      prefix_len_is is_ascii_whitespace (reverse (trimmed text)) 0 0 (omega arith)
      (λ k l. absurd (omega arith))
      (λ some.
      let inside : 0 < length (trimmed text) = omega (arith, some, turned) in
      let at : length (trimmed text) - 1 - 0 ≡ lasts - 1 = omega (arith, long) in
      ap is_ascii_whitespace (get_or-reverse (trimmed text) 0 0 inside)
      ∙ ap (λ i. is_ascii_whitespace (get_or (trimmed text) i 0)) at
      ∙ ap is_ascii_whitespace (get_or-take lasts kept (lasts - 1) 0 (omega (arith, inside, long)))
      ∙ last_kept (omega (arith, inside, long)))

  -- trimmed once more, it is the same
  pub trimmed-trimmed : trimmed (trimmed text) ≡ trimmed text
  trimmed-trimmed =
      ap (λ n. untailed (drop n (trimmed text))) no_front
      ∙ ap (λ n. take (length (trimmed text) - n) (trimmed text)) no_back
      ∙ take_all (length (trimmed text) - 0) (trimmed text) (omega arith)
