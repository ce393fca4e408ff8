-- Answers as bytes: what is read from them, and how many there are. Assumes nothing.
--     code r vs      the bytes of the values that these variables have
--     code_row r     the bytes of the mask and of the values
use Rattle.std.proofs.Common.{◌≡◌, ℕ, zero, suc, ◌+◌, ◌*◌, ◌/◌, ◌%◌, ◌^◌, ◌<◌, ◌≤◌, true, false, cond, ltb}
use Rattle.std.proofs.Common.{List, [], ◌∷◌, ◌++◌, length, map, Some, sym, ap, ◌∙◌, subst, ⊎_elim, arith}
use Rattle.std.proofs.Common.{pow-suc, add-zero, length-append}
use Rattle.std.proofs.lemmas.Bool.{cases_Bool, cond-true, cond_both, lt-ltb}
use Rattle.std.proofs.lemmas.List.{ext_get_or, append-nil}
use Rattle.std.proofs.lemmas.List.FromFn.{length-map-range_with_len, get_or-map-range_with_len}
use Rattle.std.specs.List.{filter, flat_map, AllByRecursion}
use Rattle.varint.specs.Encode.{encode, largest, groups}
use Rattle.query.specs.Limits.{variables}
use Rattle.query.specs.Readers.{Reader, took, number, both, next as hand_on}
use Rattle.query.proofs.Readers.{number_codec}
use Rattle.query.proofs.Sequences.{both_back}
use Rattle.triples.specs.Meaning.{largest_top}
use Rattle.filter.specs.Rows.{Row, none, value, has_value}
use Rattle.algebra.specs.Patterns.{all_variables}
use Rattle.algebra.specs.Answers.{Answer}
use Rattle.algebra.specs.Packing.{mask, packed, bit, read_values, read_row, whole, unpacked, Bounded}
use Rattle.algebra.specs.Packing.{highest_alternative, most_packed}
use Rattle.algebra.proofs.Bits.{mask-small, bit-mask}
use Rattle.algebra.proofs.Lists.{filter-yes, filter-no, all-weaker}
use Rattle.algebra.proofs.Ranges.{all-range}
use Rattle.algebra.proofs.Rows.{none_from_has_value}

-- values

-- the bytes of the values that these variables have
abbrev code : Row → List ℕ → List ℕ
code r vs = flat_map encode (map (value r) (filter (has_value r) vs))

code-yes : (r : Row) (v : ℕ) (vs : List ℕ) → has_value r v ≡ true
    → code r (v ∷ vs) ≡ encode (value r v) ++ code r vs
code-yes r v vs t = ap (λ ws. flat_map encode (map (value r) ws)) (filter-yes (has_value r) v vs t)

code-no : (r : Row) (v : ℕ) (vs : List ℕ) → has_value r v ≡ false → code r (v ∷ vs) ≡ code r vs
code-no r v vs f = ap (λ ws. flat_map encode (map (value r) ws)) (filter-no (has_value r) v vs f)

-- the values of all variables are the row
values-row : (r : Row) → length r ≡ variables → map (value r) all_variables ≡ r
values-row r long =
    ext_get_or none (map (value r) all_variables) r
    (length-map-range_with_len (value r) 0 variables ∙ sym long)
    (λ v low. get_or-map-range_with_len (value r) 0 variables v v none
    (subst (λ n. v < n) (length-map-range_with_len (value r) 0 variables) low) (omega arith))

module _ (r : Row) (n : ℕ) (small : (v : ℕ) → value r v ≤ largest) where
  -- under bits that say which of the variables have values, their values are read back
  values-back : (vs : List ℕ) → AllByRecursion (λ v. bit n v ≡ has_value r v) vs → (at : ℕ) (rest : List ℕ)
      → read_values n vs at (code r vs ++ rest) ≡ took (map (value r) vs) (at + length (code r vs)) rest
  values-back [] same at rest = ap (λ k. took [] k rest) (sym (add-zero at))
  values-back (v ∷ vs) same at rest =
      let next : ℕ → Reader Row = λ _. read_values n vs in
      ⊎_elim
      (λ t. ap (λ b. both (cond b number (took none)) next ◌∷◌ at (code r (v ∷ vs) ++ rest)) (same.0 ∙ t)
      ∙ ap (λ bs. both number next ◌∷◌ at (bs ++ rest)) (code-yes r v vs t)
      ∙ both_back number next ◌∷◌ encode (λ k. k ≤ largest) number_codec (value r v) (map (value r) vs)
      (code r vs) at rest (small v) (values-back vs same.1 (at + length (encode (value r v))) rest)
      ∙ ap (λ bs. took (map (value r) (v ∷ vs)) (at + length bs) rest) (sym (code-yes r v vs t)))
      (λ f. ap (λ b. both (cond b number (took none)) next ◌∷◌ at (code r (v ∷ vs) ++ rest)) (same.0 ∙ f)
      ∙ ap (λ bs. both (took none) next ◌∷◌ at (bs ++ rest)) (code-no r v vs f)
      ∙ ap (λ m. hand_on m (λ xs after more. took (none ∷ xs) after more)) (values-back vs same.1 at rest)
      ∙ ap (λ x. took (x ∷ map (value r) vs) (at + length (code r vs)) rest) (sym (none_from_has_value r v f))
      ∙ ap (λ bs. took (map (value r) (v ∷ vs)) (at + length bs) rest) (sym (code-no r v vs f)))
      (cases_Bool (has_value r v))

-- rows and answers

-- the bytes of a row: its mask and its values
abbrev code_row : Row → List ℕ
code_row r = encode (mask r) ++ code r all_variables

row-back : (r : Row) → length r ≡ variables → ((v : ℕ) → value r v ≤ largest) → (at : ℕ) (rest : List ℕ)
    → read_row at (code_row r ++ rest) ≡ took r (at + length (code_row r)) rest
row-back r long small at rest =
    let mid = at + length (encode (mask r)) in
    let same = all-weaker (λ v. (0 ≤ v) × (v < 0 + variables)) (λ v. bit (mask r) v ≡ has_value r v)
    (λ v h. bit-mask r v (omega (arith, h.1))) all_variables (all-range 0 variables) in
    both_back number (λ n. read_values n all_variables) (λ _ s. s) encode (λ k. k ≤ largest) number_codec
    (mask r) r
    (code r all_variables) at rest (omega (arith, mask-small r))
    (values-back r (mask r) small all_variables same mid rest
    ∙ ap (λ s. took s (mid + length (code r all_variables)) rest) (values-row r long))

-- an answer is read back from its bytes
pub unpacked-packed : (a : Answer) → Bounded largest largest a → unpacked (packed a) ≡ Some a
unpacked-packed a h =
    ap unpacked (sym (append-nil (packed a)))
    ∙ ap whole (both_back number (λ _. read_row) (λ k r. record { alternative = k; row = r }) encode
    (λ k. k ≤ largest) number_codec a.alternative a.row (code_row a.row) 0 [] h.numbered
    (row-back a.row h.row.long h.row.small (0 + length (encode a.alternative)) []))

-- no two answers have the same bytes
pub packed-apart : (a b : Answer) → Bounded largest largest a → Bounded largest largest b
    → packed a ≡ packed b → a ≡ b
packed-apart a b h k e =
    let same : Some a ≡ Some b = sym (unpacked-packed a h) ∙ ap unpacked e ∙ unpacked-packed b k in cc

-- length

-- a number of so few groups takes no more bytes
groups-few : (k n j : ℕ) → n < 128 ^ suc j → length (groups k n) ≤ suc j
groups-few zero n j h = omega arith
groups-few (suc k) n zero h =
    let last = cond-true (ltb n 128) (n ∷ []) ((128 + n % 128) ∷ groups k (n / 128))
    (lt-ltb n 128 (omega arith)) in
    omega (arith, ap length last)
groups-few (suc k) n (suc j) h =
    cond_both (ltb n 128) (n ∷ []) ((128 + n % 128) ∷ groups k (n / 128)) (λ bs. length bs ≤ suc (suc j))
    (λ _. omega arith)
    (λ _. let rest = groups-few k (n / 128) j (omega (arith, pow-suc 128 (suc j))) in omega arith)

-- a number below 128 takes one byte, and a number below 2,097,152 at most three
length-encode_few : (n j : ℕ) → n < 128 ^ suc j → length (encode n) ≤ suc j
unfolding encode
length-encode_few n j h = groups-few 4 n j h

-- a value takes at most three bytes
length-code : (r : Row) → ((v : ℕ) → value r v ≤ largest_top) → (vs : List ℕ)
    → length (code r vs) ≤ 3 * length vs
length-code r small [] = omega arith
length-code r small (v ∷ vs) =
    let later = length-code r small vs in
    ⊎_elim
    (λ t. omega (
      arith,
      later,
      ap length (code-yes r v vs t),
      length-append (encode (value r v)) (code r vs),
      length-encode_few (value r v) 2 (omega (arith, small v)),
    ))
    (λ f. omega (arith, later, ap length (code-no r v vs f)))
    (cases_Bool (has_value r v))

pub length-packed : (a : Answer) → Bounded highest_alternative largest_top a → length (packed a) ≤ most_packed
length-packed a h =
    omega (
      arith,
      length-append (encode a.alternative) (code_row a.row),
      length-append (encode (mask a.row)) (code a.row all_variables),
      length-encode_few a.alternative 0 (omega (arith, h.numbered)),
      length-encode_few (mask a.row) 2 (omega (arith, mask-small a.row)),
      length-code a.row h.row.small all_variables,
    )
