-- What reading a number answers. Assumes nothing.
use Rattle.std.proofs.Common.{◌≡◌, ℕ, ◌≤◌, List, length, drop, Ok, ap, arith}
use Rattle.std.proofs.lemmas.List.{length-append}
use Rattle.varint.specs.declared.number.Number.{Number}
use Rattle.varint.specs.Calls.{answer}
use Rattle.varint.specs.Decode.{Decoded, ends_early, malformed, decoded, decode}
use Rattle.varint.specs.Encode.{encode}
use Rattle.varint.proofs.Laws.{encode-decode, length-encode}

pub decoded_answer : (d : Decoded) (n : Number) → Ok n ≡ answer d → d ≡ decoded n.value n.length
decoded_answer ends_early n e = let z : ◌≡◌ {A = ℕ} 0 1 = cc in absurd (omega arith)
decoded_answer malformed n e = let z : ◌≡◌ {A = ℕ} 0 1 = cc in absurd (omega arith)
decoded_answer (decoded v k) n e =
    let same : record { value = v; length = k } ≡ n = cc in
    ap (λ m. decoded m.value m.length) same

-- the number ends within the bytes
pub number_within : (bytes : List ℕ) (v k : ℕ) → decode bytes ≡ decoded v k → k ≤ length bytes
number_within bytes v k e =
    let law = encode-decode bytes v k e in
    omega (arith, ap length law.1, length-append (encode v) (drop k bytes), law.2, (length-encode v).0)
