-- Laws of what stands first in the rest of a line. Assumes nothing.
use Rattle.std.proofs.Common.{◌≡◌, ℕ, zero, suc, ◌≤◌, ◌++◌, codes, decimal, length, take, drop, List, []}
use Rattle.std.proofs.Common.{◌∷◌, Some, Option, ℤ}
use Rattle.std.proofs.Common.{arith, refl, sym, ap, ◌∙◌, append-nil, append_assoc}
use Rattle.std.proofs.Math.ListN.{drop_of_length-le}
use Rattle.std.proofs.lemmas.List.{take_all}
use Rattle.std.specs.Fmt.{signed_decimal}
use Rattle.std.specs.List.{All}
use Rattle.triples.specs.declared.position.Position.{Position}
use Rattle.triples.specs.declared.position.Position.TheVariants.{Subject, Property, Object}
use Rattle.triples.specs.declared.triple.Triple.{Triple}
use Rattle.triples.specs.Text.{triple_text}
use Rattle.console.proofs.Decimals.{number_from-numeral}
use Rattle.console.proofs.Words.{after_word-append, unindented-decimal, unindented-space, word-append}
use Rattle.console.proofs.Words.{word_length-decimal}
use Rattle.console.specs.Numerals.{number_from}
use Rattle.console.specs.Words.{after_word, unindented, word, word_length}
use Rattle.filter.specs.Rows.{Row}
use Rattle.feedtrace.proofs.Numerals.{signed_from-signed_decimal, unindented-signed_decimal}
use Rattle.feedtrace.proofs.Numerals.{word_length-signed_decimal}
use Rattle.feedtrace.specs.Fields.{first_as, first_number, first_numbers, first_position}
use Rattle.feedtrace.specs.Fields.{first_row, first_signed, first_triple, position_of}
use Rattle.feedtrace.specs.Numerals.{most_number, signed_from}
use Rattle.feedtrace.specs.WrittenLines.{RowFits, SignedFits}
use Rattle.feedtrace.specs.WrittenTasks.{position_text, spaced_text}

-- where the word w stands first behind white space, and is read as x, x is given, and what follows w is left
first_as-word : {A : Type 0} (read : List ℕ → Option A) (x : A) (w rest text : List ℕ)
    → word_length w ≡ length w → word_length rest ≡ 0 → unindented text ≡ w ++ rest → read w ≡ Some x
    → first_as read text ≡ Some (x, rest)
first_as-word read x w rest text one_word ends stands reads =
    let first : word (unindented text) ≡ w = ap word stands ∙ word-append w rest one_word ends in
    let left : after_word (unindented text) ≡ rest =
    ap after_word stands ∙ after_word-append w rest one_word ends in
    rw (first, left, reads) refl

-- where the number n stands first behind white space, it is read, and what follows it is left
first_number-unindented : (n : ℕ) (text rest : List ℕ) → n ≤ most_number → word_length rest ≡ 0
    → unindented text ≡ decimal n ++ rest → first_number text ≡ Some (n, rest)
first_number-unindented n text rest small ends stands =
    first_as-word (number_from most_number) n (decimal n) rest text (word_length-decimal n (omega arith)) ends
    stands (number_from-numeral most_number n (decimal n) (omega arith) small (0, refl))

-- the same where nothing stands in front
pub first_number-decimal : (n : ℕ) (rest : List ℕ) → n ≤ most_number → word_length rest ≡ 0
    → first_number (decimal n ++ rest) ≡ Some (n, rest)
first_number-decimal n rest small ends =
    first_number-unindented n (decimal n ++ rest) rest small ends (unindented-decimal n rest (omega arith))

-- the same behind a space
pub first_number-space : (n : ℕ) (rest : List ℕ) → n ≤ most_number → word_length rest ≡ 0
    → first_number (codes " " ++ (decimal n ++ rest)) ≡ Some (n, rest)
first_number-space n rest small ends =
    first_number-unindented n (codes " " ++ (decimal n ++ rest)) rest small ends
    (unindented-space (decimal n ++ rest) ∙ unindented-decimal n rest (omega arith))

-- the same of the last number, behind a space
pub first_number-last : (n : ℕ) → n ≤ most_number → first_number (codes " " ++ decimal n) ≡ Some (n, [])
first_number-last n small =
    ap (λ text. first_number (codes " " ++ text)) (sym (append-nil (decimal n)))
    ∙ first_number-space n [] small refl

-- a number with spaces before it and before others is read, and the others are left
pub first_number-spaced : (n : ℕ) (xs : List ℕ) → n ≤ most_number
    → first_number (spaced_text (n ∷ xs)) ≡ Some (n, spaced_text xs)
first_number-spaced n [] small = first_number-space n [] small refl
first_number-spaced n (x ∷ xs) small = first_number-space n (spaced_text (x ∷ xs)) small refl

-- the same of the last number with its sign
pub first_signed-last : (z : ℤ) → SignedFits z → first_signed (codes " " ++ signed_decimal z) ≡ Some (z, [])
first_signed-last z small =
    let written = signed_decimal z in
    first_as-word signed_from z written [] (codes " " ++ written) (word_length-signed_decimal z small) refl
    (unindented-space written ∙ unindented-signed_decimal z small ∙ sym (append-nil written))
    (signed_from-signed_decimal z small)

-- what stands behind a triple stands behind its last number
triple_text-append : (t : Triple) (rest : List ℕ)
    → triple_text t ++ rest
    ≡ decimal t.subject ++ (codes " " ++ (decimal t.property ++ (codes " " ++ (decimal t.object ++ rest))))
triple_text-append t rest =
    let object = codes " " ++ decimal t.object in
    append_assoc (decimal t.subject) (codes " " ++ (decimal t.property ++ object)) rest
    ∙ ap (λ text. decimal t.subject ++ (codes " " ++ text)) (append_assoc (decimal t.property) object rest)

-- the numbers of a triple behind a space are read as the triple
pub first_triple-space : (t : Triple) (rest : List ℕ) → RowFits t → word_length rest ≡ 0
    → first_triple (codes " " ++ (triple_text t ++ rest)) ≡ Some (t, rest)
first_triple-space t rest small ends =
    let last = codes " " ++ (decimal t.object ++ rest) in
    let s = first_number-space t.subject (codes " " ++ (decimal t.property ++ last)) small.0 refl in
    let p = first_number-space t.property last small.1 refl in
    let o = first_number-space t.object rest small.2 ends in
    ap (λ text. first_triple (codes " " ++ text)) (triple_text-append t rest) ∙ rw (s, p, o) refl

-- the same of the last triple
pub first_triple-last : (t : Triple) → RowFits t → first_triple (codes " " ++ triple_text t) ≡ Some (t, [])
first_triple-last t small =
    ap (λ text. first_triple (codes " " ++ text)) (sym (append-nil (triple_text t)))
    ∙ first_triple-space t [] small refl

-- the name of a position behind a space is read as the position
pub first_position-space : (p : Position) (rest : List ℕ) → word_length rest ≡ 0
    → first_position (codes " " ++ (position_text p ++ rest)) ≡ Some (p, rest)
first_position-space Subject rest ends =
    first_as-word position_of Subject (codes "subject") rest (codes " subject" ++ rest) refl ends refl refl
first_position-space Property rest ends =
    first_as-word position_of Property (codes "property") rest (codes " property" ++ rest) refl ends refl refl
first_position-space Object rest ends =
    first_as-word position_of Object (codes "object") rest (codes " object" ++ rest) refl ends refl refl

-- the first n of numbers with spaces before them are read, and the others are left
first_numbers-spaced : (n : ℕ) (xs : List ℕ) → n ≤ length xs → All (λ x. x ≤ most_number) xs
    → first_numbers n (spaced_text xs) ≡ Some (take n xs, spaced_text (drop n xs))
first_numbers-spaced zero xs enough small = refl
first_numbers-spaced (suc n) [] enough small = absurd (omega arith)
first_numbers-spaced (suc n) (x ∷ xs) enough small =
    let others = first_numbers-spaced n xs (omega arith) (λ k d less. small (suc k) d (omega arith)) in
    rw (first_number-spaced x xs (small 0 0 (omega arith)), others) refl

-- the first n of numbers with spaces before them are all of them, if there are n
first_numbers-all : (n : ℕ) (xs : List ℕ) → length xs ≡ n → All (λ x. x ≤ most_number) xs
    → first_numbers n (spaced_text xs) ≡ Some (xs, [])
first_numbers-all n xs long small =
    first_numbers-spaced n xs (omega (arith, long)) small
    ∙ ap (λ ys. Some (ys, spaced_text (drop n xs))) (take_all n xs (omega (arith, long)))
    ∙ ap (λ ys. Some (xs, spaced_text ys)) (drop_of_length-le xs (omega (arith, long)))

-- sixteen numbers with spaces before them are read as a row
pub first_row-all : (r : Row) → length r ≡ 16 → All (λ x. x ≤ most_number) r
    → first_row (spaced_text r) ≡ Some (r, [])
unfolding first_row
first_row-all r long small = first_numbers-all 16 r long small

-- the first sixteen of numbers with spaces before them are read as a row, and the others are left
pub first_row-spaced : (xs : List ℕ) → 16 ≤ length xs → All (λ x. x ≤ most_number) xs
    → first_row (spaced_text xs) ≡ Some (take 16 xs, spaced_text (drop 16 xs))
unfolding first_row
first_row-spaced xs enough small = first_numbers-spaced 16 xs enough small
