-- Laws of numbers in seven-bit groups: what is written is read back, and nothing else is read as a number.
-- Assumes nothing.
use Rattle.std.proofs.Common.{◌≡◌, ℕ, zero, suc, ◌+◌, ◌-◌, ◌%◌, ◌<◌, ◌≤◌, ◌&&◌, ltb, leb, ◌⊎◌}
use Rattle.std.proofs.Common.{List, [], ◌∷◌, ◌++◌, length, take, drop, sym, refl, ap, ◌∙◌, subst, inl, inr}
use Rattle.std.proofs.Common.{⊎_elim, arith}
use Rattle.std.proofs.lemmas.List.{append-nil, take_at, take-append-drop, length-take-le}
use Rattle.std.proofs.lemmas.Bool.{and_from, and_parts, cases_lt, cond_both, cond-true, cond-false}
use Rattle.std.proofs.lemmas.Bool.{le-leb, leb-true, lt-ltb, le-ltb}
use Rattle.std.proofs.lemmas.Slice.Eq.{bytes_eq-Decides}
use Rattle.std.specs.Str.{bytes_eq}
use Rattle.varint.specs.Encode.{most_bytes, encode, largest}
use Rattle.varint.specs.Decode.{ends_early, malformed, decoded, decode}
use Rattle.varint.specs.Decode.{one_more, span, value, judged, spanned}
use Rattle.varint.proofs.Groups.{length-groups, encode_each}

-- length

pub length-encode : (n : ℕ) → (1 ≤ length (encode n)) × (length (encode n) ≤ most_bytes)
unfolding encode
length-encode n = length-groups 4 n

-- span

one_more_suc : (k : ℕ) → 0 < k → one_more k ≡ suc k
one_more_suc zero h = omega arith
one_more_suc (suc k) h = refl

one_more_back : (m k : ℕ) → one_more m ≡ suc k → (0 < k) × (m ≡ k)
one_more_back zero k e = absurd (omega arith)
one_more_back (suc m) k e = (omega arith, omega arith)

pub span_last : (b : ℕ) (bs : List ℕ) → b < 128 → span (b ∷ bs) ≡ 1
span_last b bs h = cond-true (ltb b 128) 1 (one_more (span bs)) (lt-ltb b 128 h)

pub span_more : (b : ℕ) (bs : List ℕ) → 128 ≤ b → span (b ∷ bs) ≡ one_more (span bs)
span_more b bs h = cond-false (ltb b 128) 1 (one_more (span bs)) (le-ltb b 128 h)

pub span-suc : (b : ℕ) (bs : List ℕ) → 128 ≤ b → 0 < span bs → span (b ∷ bs) ≡ suc (span bs)
span-suc b bs h some = span_more b bs h ∙ one_more_suc (span bs) some

-- the first byte is the last one, or bytes that have a last one follow it
span_back : (b : ℕ) (bs : List ℕ) (k : ℕ) → span (b ∷ bs) ≡ suc k
    → ((b < 128) × (k ≡ 0)) ⊎ ((128 ≤ b) × (0 < k) × (span bs ≡ k))
span_back b bs k e =
    ⊎_elim
    (λ less. inl (less, omega (arith, span_last b bs less)))
    (λ more. let back = one_more_back (span bs) k (sym (span_more b bs more) ∙ e)
    in inr (more, back.0, back.1))
    (cases_lt b 128)

-- what holds of a last byte, and with each byte before it, holds of every string with its last byte at k
pub span_each : (P : ℕ → List ℕ → Type 0)
    → ((b : ℕ) (bs : List ℕ) → b < 128 → P 0 (b ∷ bs))
    → ((b : ℕ) (bs : List ℕ) (k : ℕ) → 128 ≤ b → span bs ≡ suc k → P k bs → P (suc k) (b ∷ bs))
    → (k : ℕ) (bs : List ℕ) → span bs ≡ suc k → P k bs
span_each P last more k [] e = absurd (omega arith)
span_each P last more zero (b ∷ bs) e =
    ⊎_elim (λ one. last b bs one.0) (λ many. absurd (omega (arith, many.1))) (span_back b bs 0 e)
span_each P last more (suc k) (b ∷ bs) e =
    ⊎_elim
    (λ one. absurd (omega (arith, one.1)))
    (λ many. more b bs k many.0 many.2 (span_each P last more k bs many.2))
    (span_back b bs (suc k) e)

span-length : (bs : List ℕ) → span bs ≤ length bs
span-length bs =
    ⊎_elim
    (λ none. omega arith)
    (λ some. omega (
      arith,
      span_each (λ k xs. suc k ≤ length xs) (λ b xs h. omega arith) (λ b xs k h e l. omega arith)
          (span bs - 1) bs (omega arith),
    ))
    (cases_lt (span bs) 1)

pub span-take : (bs rest : List ℕ) → 0 < span bs → span (take (span bs) bs ++ rest) ≡ span bs
span-take bs rest h =
    let e : suc (span bs - 1) ≡ span bs = omega arith
    in let P : ℕ → List ℕ → Type 0 = λ k xs. span (take (suc k) xs ++ rest) ≡ suc k
    in subst (λ m. span (take m bs ++ rest) ≡ m) e
    (span_each P (λ b xs l. span_last b rest l)
    (λ b xs k l e is. span-suc b (take (suc k) xs ++ rest) l (omega arith) ∙ ap suc is)
    (span bs - 1) bs (sym e))

span-encode : (n : ℕ) (rest : List ℕ) → n ≤ largest → span (encode n ++ rest) ≡ length (encode n)
span-encode n rest h =
    (encode_each (λ _ bs. (0 < length bs) × (span (bs ++ rest) ≡ length bs))
    (λ n less. (omega arith, span_last n rest less))
    (λ n bs more e. (
      omega arith,
      span-suc (128 + n % 128) (bs ++ rest) (omega arith) (omega arith) ∙ ap suc e.1,
    )) n h).1

-- value

value-encode : (n : ℕ) → n ≤ largest → value (encode n) ≡ n
value-encode = encode_each (λ n bs. value bs ≡ n) (λ n h. omega arith) (λ n bs h e. omega arith)

-- judged

pub judged_yes : (bs : List ℕ) → value bs ≤ largest → encode (value bs) ≡ bs
    → judged bs ≡ decoded (value bs) (length bs)
judged_yes bs h e =
    cond-true (leb (value bs) largest && bytes_eq (encode (value bs)) bs)
    (decoded (value bs) (length bs)) malformed
    (and_from _ _ (le-leb (value bs) largest h) ((bytes_eq-Decides (encode (value bs)) bs).1 e))

judged-encode : (n : ℕ) → n ≤ largest → judged (encode n) ≡ decoded n (length (encode n))
judged-encode n h =
    let e = value-encode n h
    in judged_yes (encode n) (omega arith) (ap encode e) ∙ ap (λ m. decoded m (length (encode n))) e

malformed≢decoded : (n k : ℕ) → malformed ≡ decoded n k → ⊥
malformed≢decoded n k e = let z : ◌≡◌ {A = ℕ} 0 1 = cc in omega arith

-- what is in order is within the limit and stands as it is written
judged_back : (bs : List ℕ) (n k : ℕ) → judged bs ≡ decoded n k
    → (n ≤ largest) × (encode n ≡ bs) × (k ≡ length bs)
judged_back bs n k = cond_both (leb (value bs) largest && bytes_eq (encode (value bs)) bs)
    (decoded (value bs) (length bs)) malformed
    (λ r. r ≡ decoded n k → (n ≤ largest) × (encode n ≡ bs) × (k ≡ length bs))
    (λ t e.
    let both = and_parts (leb (value bs) largest) (bytes_eq (encode (value bs)) bs) t
    in let is : value bs ≡ n = cc
    in (
      omega (arith, leb-true (value bs) largest both.0),
      ap encode (sym is) ∙ (bytes_eq-Decides (encode (value bs)) bs).0 both.1,
      cc,
    ))
    (λ _ e. absurd (malformed≢decoded n k e))

-- decode

spanned_some : (k : ℕ) (bs : List ℕ) → 0 < k → spanned k bs ≡ judged (take k bs)
spanned_some zero bs h = let z : ◌≡◌ {A = ℕ} 0 1 = omega arith in cc
spanned_some (suc k) bs h = refl

pub decode_none : (bs : List ℕ) → span bs ≡ 0 → decode bs ≡ ends_early
unfolding decode
decode_none bs e = rw e

pub decode_some : (bs : List ℕ) → 0 < span bs → decode bs ≡ judged (take (span bs) bs)
unfolding decode
decode_some bs h = spanned_some (span bs) bs h

-- a string that does not end early has a last byte
some_from_decode : (bs : List ℕ) → (decode bs ≡ ends_early → ⊥) → 0 < span bs
some_from_decode bs late =
    ⊎_elim (λ none. absurd (late (decode_none bs (omega arith)))) (λ some. some) (cases_lt (span bs) 1)

some_from_decoded : (bs : List ℕ) (n k : ℕ) → decode bs ≡ decoded n k → 0 < span bs
some_from_decoded bs n k h =
    some_from_decode bs (λ e. let z : ◌≡◌ {A = ℕ} 0 1 = cc in omega arith)

some_from_malformed : (bs : List ℕ) → decode bs ≡ malformed → 0 < span bs
some_from_malformed bs h =
    some_from_decode bs (λ e. let z : ◌≡◌ {A = ℕ} 0 1 = cc in omega arith)

pub length-span : (bs : List ℕ) → length (take (span bs) bs) ≡ span bs
length-span bs = length-take-le (span bs) bs (span-length bs)

-- what stands behind the first number does not matter
decode-take : (bs rest : List ℕ) → 0 < span bs → decode (take (span bs) bs ++ rest) ≡ decode bs
decode-take bs rest h =
    let e = span-take bs rest h
    in let front = take_at (take (span bs) bs) rest (span bs) (length-span bs)
    in let some : 0 < span (take (span bs) bs ++ rest) = omega arith
    in decode_some (take (span bs) bs ++ rest) some ∙ (rw (e, front) (sym (decode_some bs h)))

pub decode-encode : (n : ℕ) (rest : List ℕ) → n ≤ largest
    → decode (encode n ++ rest) ≡ decoded n (length (encode n))
decode-encode n rest h =
    let e = span-encode n rest h
    in let front = take_at (encode n) rest (length (encode n)) refl
    in let some : 0 < span (encode n ++ rest) = omega (arith, length-encode n)
    in decode_some (encode n ++ rest) some ∙ rw (e, front) (judged-encode n h)

pub decode_alone : (n : ℕ) → n ≤ largest → decode (encode n) ≡ decoded n (length (encode n))
decode_alone n h = ap decode (sym (append-nil (encode n))) ∙ decode-encode n [] h

pub span_decoded : (bs : List ℕ) (n k : ℕ) → decode bs ≡ decoded n k → span bs ≡ k
span_decoded bs n k h =
    let some = some_from_decoded bs n k h
    in sym ((judged_back (take (span bs) bs) n k (sym (decode_some bs some) ∙ h)).2 ∙ length-span bs)

pub take_decoded : (bs : List ℕ) (n k : ℕ) → decode bs ≡ decoded n k → (n ≤ largest) × (take k bs ≡ encode n)
take_decoded bs n k h =
    let some = some_from_decoded bs n k h
    in let back = judged_back (take (span bs) bs) n k (sym (decode_some bs some) ∙ h)
    in (back.0, ap (λ m. take m bs) (sym (span_decoded bs n k h)) ∙ sym back.1)

pub encode-decode : (bs : List ℕ) (n k : ℕ) → decode bs ≡ decoded n k
    → (n ≤ largest) × (bs ≡ encode n ++ drop k bs) × (k ≡ length (encode n))
encode-decode bs n k h =
    let front = take_decoded bs n k h
    in let e = span_decoded bs n k h
    in let within : k ≤ length bs = omega (arith, span-length bs)
    in (
      front.0,
      rw (← front.1) (sym (take-append-drop k bs)),
      sym (length-take-le k bs within) ∙ ap length front.1,
    )

pub malformed_stays : (bs rest : List ℕ) → decode bs ≡ malformed
    → decode (take (span bs) bs ++ rest) ≡ malformed
malformed_stays bs rest h = decode-take bs rest (some_from_malformed bs h) ∙ h

pub span_malformed : (bs : List ℕ) → decode bs ≡ malformed → (0 < span bs) × (span bs ≤ length bs)
span_malformed bs h = (some_from_malformed bs h, span-length bs)
