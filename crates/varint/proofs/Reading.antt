-- What a reader that looks for the last byte first may conclude: where the number ends, what it is worth,
-- and whether it is in order. Assumes nothing.
use Rattle.std.proofs.Common.{◌≡◌, ℕ, zero, suc, ◌+◌, ◌-◌, ◌*◌, ◌/◌, ◌%◌, ◌<◌, ◌≤◌, true, false, ◌&&◌}
use Rattle.std.proofs.Common.{eqb, ltb, leb, List, [], ◌∷◌, length, get_or, reverse, fold, take, sym, refl}
use Rattle.std.proofs.Common.{ap, ◌∙◌}
use Rattle.std.proofs.Common.{subst, ⊎_elim, arith}
use Rattle.std.proofs.lemmas.Grind.{fold-append}
use Rattle.std.proofs.lemmas.List.{get_or-take, reverse-append}
use Rattle.std.proofs.lemmas.Bool.{and_cases, and_parts, cases_Bool, cond-false, eqb-true, eqb-false}
use Rattle.std.proofs.lemmas.Bool.{leb-true, ltb-true, ltb-false}
use Rattle.std.proofs.lemmas.Slice.Eq.{bytes_eq-Decides}
use Rattle.std.specs.Str.{bytes_eq}
use Rattle.std.specs.List.{AllWithin, HoldsAt}
use Rattle.varint.specs.Ending.{IsFirst, padded}
use Rattle.varint.specs.Encode.{encode, groups, largest}
use Rattle.varint.specs.Decode.{malformed, decoded, one_more, span, value, judged, decode}
use Rattle.varint.proofs.Groups.{groups_less, groups_more, encode_each}
use Rattle.varint.proofs.Laws.{length-encode, span_last, span_more, span-suc, span_each, length-span}
use Rattle.varint.proofs.Laws.{judged_yes, decode_some}

-- span

span_none : (bs : List ℕ) → ((i : ℕ) → i < length bs → 128 ≤ get_or bs i 0) → span bs ≡ 0
span_none [] h = refl
span_none (b ∷ bs) h =
    span_more b bs (h 0 (omega arith)) ∙ ap one_more (span_none bs (λ i l. h (suc i) (omega arith)))

span_found : (k : ℕ) (bs : List ℕ) → k < length bs
    → ((i : ℕ) → i < k → 128 ≤ get_or bs i 0) → get_or bs k 0 < 128 → span bs ≡ suc k
span_found k [] l h e = absurd (omega arith)
span_found zero (b ∷ bs) l h e = span_last b bs e
span_found (suc k) (b ∷ bs) l h e =
    let rest = span_found k bs (omega arith) (λ i j. h (suc i) (omega arith)) e
    in span-suc b bs (h 0 (omega arith)) (omega arith) ∙ ap suc rest

-- value

-- the groups from the last one on make the value
pub fold-reverse : (bs : List ℕ) → fold (λ n b. n * 128 + b % 128) 0 (reverse bs) ≡ value bs
fold-reverse [] = refl
fold-reverse (b ∷ bs) =
    ap (fold (λ n c. n * 128 + c % 128) 0) (reverse-append (b ∷ []) bs)
    ∙ fold-append (λ n c. n * 128 + c % 128) 0 (reverse bs) (b ∷ [])
    ∙ omega (arith, fold-reverse bs)

value_some : (k : ℕ) (bs : List ℕ) → span bs ≡ suc k → 0 < get_or bs k 0 → 0 < value (take (suc k) bs)
value_some =
    span_each (λ k bs. 0 < get_or bs k 0 → 0 < value (take (suc k) bs))
    (λ b bs less h. omega arith)
    (λ b bs k more e some h. omega (arith, some h))

-- groups

-- a byte in front of groups that are as they would be written is one too
groups-cons : (f k b v : ℕ) (bs : List ℕ) → 128 ≤ b → b < 256 → 0 < v → k < f
    → ((g : ℕ) → k ≤ g → groups g v ≡ bs) → groups f (b % 128 + 128 * v) ≡ b ∷ bs
groups-cons zero k b v bs more small some h is = absurd (omega arith)
groups-cons (suc f) k b v bs more small some h is =
    let n = b % 128 + 128 * v
    in let low : 128 + n % 128 ≡ b = omega arith
    in let high : n / 128 ≡ v = omega arith
    in groups_more f n (omega arith) ∙ rw (low, high, is f (omega arith))

-- groups that have a last one above 0, or are alone, are as they would be written
groups-value : (k : ℕ) (bs : List ℕ) → span bs ≡ suc k → (f : ℕ) → k ≤ f
    → ((i : ℕ) → get_or bs i 0 < 256) → (0 < k → 0 < get_or bs k 0)
    → groups f (value (take (suc k) bs)) ≡ take (suc k) bs
groups-value =
    span_each
    (λ k bs. (f : ℕ) → k ≤ f → ((i : ℕ) → get_or bs i 0 < 256) → (0 < k → 0 < get_or bs k 0)
    → groups f (value (take (suc k) bs)) ≡ take (suc k) bs)
    (λ b bs less f h small some. let e : b % 128 + 0 ≡ b = omega arith in rw e (groups_less f b less))
    (λ b bs k more e is f h small some.
    groups-cons f k b (value (take (suc k) bs)) (take (suc k) bs)
    more (small 0) (value_some k bs e (some (omega arith))) h
    (λ g l. is g l (λ i. small (suc i)) (λ _. some (omega arith))))

-- encode

encode-value : (k : ℕ) (bs : List ℕ) → span bs ≡ suc k → k < 5
    → ((i : ℕ) → get_or bs i 0 < 256) → (0 < k → 0 < get_or bs k 0)
    → encode (value (take (suc k) bs)) ≡ take (suc k) bs
unfolding encode
encode-value k bs e h small some = groups-value k bs e 4 (omega arith) small some

last_cons : (b : ℕ) (bs : List ℕ) → 0 < b → ((k : ℕ) → length bs ≡ suc k → 0 < get_or bs k 0)
    → (k : ℕ) → length (b ∷ bs) ≡ suc k → 0 < get_or (b ∷ bs) k 0
last_cons b bs some rest zero e = some
last_cons b bs some rest (suc k) e = rest k (omega arith)

-- a number that takes more than one byte is written with a last byte above 0
last_encode : (n k : ℕ) → n ≤ largest → 0 < k → length (encode n) ≡ suc k → 0 < get_or (encode n) k 0
unfolding encode
last_encode zero k h some e = absurd (omega arith)
last_encode (suc n) k h some e =
    encode_each (λ n bs. 0 < n → (k : ℕ) → length bs ≡ suc k → 0 < get_or bs k 0)
    (λ n less h. last_cons n [] h (λ k none. absurd (omega arith)))
    (λ n bs more is h. last_cons (128 + n % 128) bs (omega arith) (is (omega arith)))
    (suc n) h (omega arith) k e

-- judged

judged_no : (bs : List ℕ) → (value bs ≤ largest → encode (value bs) ≡ bs → ⊥) → judged bs ≡ malformed
judged_no bs wrong =
    let test = leb (value bs) largest && bytes_eq (encode (value bs)) bs
    in ⊎_elim
    (λ t. let both = and_parts (leb (value bs) largest) (bytes_eq (encode (value bs)) bs) t
    in absurd (wrong (leb-true _ _ both.0) ((bytes_eq-Decides _ _).0 both.1)))
    (λ f. cond-false test (decoded (value bs) (length bs)) malformed f)
    (cases_Bool test)

-- decode

malformed_from : (bs : List ℕ) → 0 < span bs
    → (value (take (span bs) bs) ≤ largest → encode (value (take (span bs) bs)) ≡ take (span bs) bs → ⊥)
    → decode bs ≡ malformed
malformed_from bs some wrong = decode_some bs some ∙ judged_no (take (span bs) bs) wrong

decode_long : (bs : List ℕ) → 5 < span bs → decode bs ≡ malformed
decode_long bs h =
    malformed_from bs (omega arith)
    (λ _ e. omega (arith, ap length e, length-encode (value (take (span bs) bs)), length-span bs))

decode_padded : (k : ℕ) (bs : List ℕ) → span bs ≡ suc k → 0 < k → get_or bs k 0 ≡ 0 → decode bs ≡ malformed
decode_padded k bs is some none =
    malformed_from bs (omega arith)
    (λ h e. let last = last_encode (value (take (span bs) bs)) k h some (ap length e ∙ length-span bs ∙ is)
    in omega (arith, last, ap (λ xs. get_or xs k 0) e, get_or-take (span bs) bs k 0 (omega arith)))

decode_large : (bs : List ℕ) → 0 < span bs → largest < value (take (span bs) bs) → decode bs ≡ malformed
decode_large bs some h = malformed_from bs some (λ l _. omega arith)

decode_shortest : (k : ℕ) (bs : List ℕ) → span bs ≡ suc k → k < 5
    → ((i : ℕ) → get_or bs i 0 < 256) → (0 < k → 0 < get_or bs k 0)
    → value (take (span bs) bs) ≤ largest → decode bs ≡ decoded (value (take (span bs) bs)) (span bs)
decode_shortest k bs is h small some l =
    let as_written : encode (value (take (span bs) bs)) ≡ take (span bs) bs
    = subst (λ m. encode (value (take m bs)) ≡ take m bs) (sym is) (encode-value k bs is h small some)
    in decode_some bs (omega arith)
    ∙ judged_yes (take (span bs) bs) l as_written
    ∙ ap (decoded (value (take (span bs) bs))) (length-span bs)

-- the first number of a byte string

pub ends_none : (bytes : List ℕ) → AllWithin (λ b. 128 ≤ b) bytes 0 (length bytes) → span bytes ≡ 0
ends_none bytes passed = span_none bytes (λ i h. passed i 0 (omega arith) h)

pub first_found : (bytes : List ℕ) (i : ℕ) → i < length bytes → HoldsAt (λ b. b < 128) bytes i
    → AllWithin (λ b. 128 ≤ b) bytes 0 i → IsFirst bytes (take (i + 1) bytes)
first_found bytes i h below passed =
    let e = span_found i bytes h (λ k l. passed k 0 (omega arith) l) (below 0)
    in let n : i + 1 ≡ span bytes = omega arith
    in record { ends = omega arith; front = ap (λ (m : ℕ). take m bytes) n }

module _ {bytes number : List ℕ} (first : IsFirst bytes number) where
  length_first : length number ≡ span bytes
  length_first = ap length first.front ∙ length-span bytes

  last_first : get_or number (length number - 1) 0 ≡ get_or bytes (span bytes - 1) 0
  last_first =
      let inside : span bytes - 1 < span bytes = omega (arith, first.ends)
      in rw (length_first, first.front) (get_or-take (span bytes) bytes (span bytes - 1) 0 inside)

  value_first : value (take (span bytes) bytes) ≡ value number
  value_first = ap value (sym first.front)

  pub long_first : 5 < length number → decode bytes ≡ malformed
  long_first h = decode_long bytes (omega (arith, length_first))

  pub padded_first : padded number ≡ true → decode bytes ≡ malformed
  padded_first t =
      let both = and_parts (ltb 1 (length number)) (eqb (get_or number (length number - 1) 0) 0) t
      in let more = ltb-true 1 (length number) both.0
      in decode_padded (span bytes - 1) bytes (omega (arith, first.ends)) (omega (arith, length_first, more))
      (sym last_first ∙ eqb-true (get_or number (length number - 1) 0) 0 both.1)

  last_some : padded number ≡ false → 1 < length number → 0 < get_or bytes (span bytes - 1) 0
  last_some f h =
      ⊎_elim (λ e. absurd (omega (arith, ltb-false 1 (length number) e)))
      (λ e. let some = eqb-false (get_or number (length number - 1) 0) 0 e in omega (arith, last_first))
      (and_cases (ltb 1 (length number)) (eqb (get_or number (length number - 1) 0) 0) f)

  pub large_first : largest < value number → decode bytes ≡ malformed
  large_first h = decode_large bytes first.ends (omega (arith, value_first))

  pub shortest_first : length number ≤ 5 → padded number ≡ false → value number ≤ largest
      → ((i : ℕ) → get_or bytes i 0 < 256) → decode bytes ≡ decoded (value number) (length number)
  shortest_first h f l small =
      decode_shortest (span bytes - 1) bytes (omega (arith, first.ends)) (omega (arith, length_first)) small
      (λ p. last_some f (omega (arith, length_first))) (omega (arith, value_first))
      ∙ ap (λ v. decoded v (span bytes)) value_first ∙ ap (decoded (value number)) (sym length_first)
