-- What a writer that puts one group after the other keeps. Assumes nothing.
use Rattle.std.proofs.Common.{◌≡◌, ℕ, ◌+◌, ◌/◌, ◌%◌, ◌<◌, ◌≤◌, List, [], ◌∷◌, ◌++◌, length, take, set, sym}
use Rattle.std.proofs.Common.{refl}
use Rattle.std.proofs.Common.{ap, ◌∙◌, append_assoc, length-append, length-set, arith}
use Rattle.std.proofs.lemmas.Grind.{take-set_at}
use Rattle.std.proofs.lemmas.List.{length-take-le, take_all}
use Rattle.varint.specs.Encode.{encode, largest}
use Rattle.varint.proofs.Groups.{encode_less, encode_more}
use Rattle.varint.proofs.Laws.{length-encode}

-- the i bytes of out before those of rest are the first ones of n; where out ends at i, they are all
pub record Left (n rest i : ℕ) (out : List ℕ) : Type 0 where
  pub low : rest ≤ n
  pub room : length out ≡ length (encode n)
  pub some : i < length out → take i out ++ encode rest ≡ encode n
  pub all : length out ≤ i → take i out ≡ encode n

module _ {n rest i : ℕ} {out : List ℕ} (left : Left n rest i out) where
  -- the bytes up to and with the one at i
  next_bytes : (b : ℕ) → i < length out → take (i + 1) (set out i b) ≡ take i out ++ b ∷ []
  next_bytes b h = take-set_at out i (i + 1) b refl h

  -- the last byte is written, and no rest is left
  pub left_last : (b next : ℕ) → i < length out → rest < 128 → b ≡ rest → next ≤ rest
      → Left n next (i + 1) (set out i b)
  left_last b next h less is_b is_next =
      let whole = left.some h
      in let one = encode_less rest less
      in let long : length (encode n) ≡ i + 1 = omega (
        arith,
        ap length whole,
        length-append (take i out) (encode rest),
        ap length one,
        length-take-le i out (omega arith),
      )
      in record {
        low = omega (arith, left.low);
        room = length-set out i b ∙ left.room;
        some = λ more. absurd (omega (arith, left.room, length-set out i b));
        all = λ end. next_bytes b h ∙ ap (λ (m : ℕ). take i out ++ m ∷ []) is_b
            ∙ ap (λ bs. take i out ++ bs) (sym one) ∙ whole;
      }

  -- a byte with more behind it is written
  pub left_more : (b next : ℕ) → n ≤ largest → i < length out → 128 ≤ rest
      → b ≡ 128 + rest % 128 → next ≡ rest / 128
      → Left n next (i + 1) (set out i b)
  left_more b next small h more is_b is_next =
      let whole = left.some h
      in let split = encode_more rest (omega (arith, left.low)) more
      in let long : i + 1 < length (encode n) = omega (
        arith,
        ap length whole,
        length-append (take i out) (encode rest),
        ap length split,
        length-encode (rest / 128),
        length-take-le i out (omega arith),
      )
      in record {
        low = omega (arith, left.low);
        room = length-set out i b ∙ left.room;
        some = λ _. ap (λ bs. bs ++ encode next) (next_bytes b h)
            ∙ append_assoc (take i out) (b ∷ []) (encode next)
            ∙ ap (λ (m : ℕ). take i out ++ m ∷ encode next) is_b
            ∙ ap (λ m. take i out ++ (128 + rest % 128) ∷ encode m) is_next
            ∙ ap (λ bs. take i out ++ bs) (sym split) ∙ whole;
        all = λ end. absurd (omega (arith, left.room, length-set out i b));
      }

  -- where out ends, all is written
  pub left_all : length out ≤ i → out ≡ encode n
  left_all h = sym (take_all i out h) ∙ left.all h
