-- Laws of the text of bytes: each byte's digits are read as the byte. Assumes nothing.
use Rattle.std.proofs.Common.{◌≡◌, ℕ, zero, suc, ◌+◌, ◌-◌, ◌*◌, ◌/◌, ◌%◌, ◌^◌, ◌<◌, ◌≤◌, true, false}
use Rattle.std.proofs.Common.{List, [], ◌∷◌, ◌++◌}
use Rattle.std.proofs.Common.{length, get_or, take, Some, None, Option, Result, sym, refl, ap, ◌∙◌}
use Rattle.std.proofs.Common.{subst, arith}
use Rattle.std.proofs.lemmas.Fmt.{hex_byte}
use Rattle.std.proofs.lemmas.List.{length-take-le, take_all, take_more}
use Rattle.std.proofs.Output.{has_written_of_eq, has_written_append}
use Rattle.std.proofs.lemmas.Bool.{cond-true}
use Rattle.std.proofs.lemmas.Bool.Decides.{nat_tests}
use Rattle.std.specs.Fmt.{IsPlainFormatter, HasWritten, DisplaysOnOk, WritesOnOk, digits_output, format_spec}
use Rattle.std.specs.Fmt.{padded_integral, radix_digits, styled_digits_output}
use Rattle.std.specs.Option.{option_map}
use Rattle.std.specs.declared.fmt.Error.{Error}
use Rattle.std.specs.declared.fmt.Formatter.{Formatter}
use Rattle.hex_text.specs.Characters.{digit_of, digit_value, space}
use Rattle.hex_text.specs.Reading.{byte_value, front, led_by, parted, read_text}
use Rattle.hex_text.specs.Writing.{pair, spaced, text_of}
use Rattle.hex_text.proofs.Reading.{read_front, read_space}

-- digits

digit_value_of : (n : ℕ) → n < 16 → digit_value (digit_of n) ≡ Some n
digit_value_of n h = grind (arith, nat_tests)

-- a byte

pub shown_byte : (b : ℕ) (d : _) (s : _) → b < 256
    → digits_output d ≡ Some (radix_digits 16 true b) → s ≡ format_spec 32 0 4 2 (2 ^ 64 - 1)
    → styled_digits_output d s ≡ Some (pair b)
shown_byte b d s h is_digits is_spec =
    ap (styled_digits_output d) is_spec
    ∙ ap (option_map (padded_integral (format_spec 32 0 4 2 (2 ^ 64 - 1)) false [])) is_digits
    ∙ ap Some (hex_byte true b h)

parted-spaced : (bs : List ℕ) → parted (spaced bs) ≡ true
parted-spaced [] = refl
parted-spaced (b ∷ bs) = refl

front_pair : (b : ℕ) (bs : List ℕ) → b < 256 → front (pair b ++ spaced bs) ≡ Some b
front_pair b bs h =
    let high = digit_value_of (b / 16) (omega arith)
    in let low = digit_value_of (b % 16) (omega arith)
    in let e : 16 * (b / 16) + b % 16 ≡ b = omega arith
    in cond-true (parted (spaced bs)) _ None (parted-spaced bs)
    ∙ ap (λ m. byte_value m (digit_value (digit_of (b % 16)))) high
    ∙ ap (byte_value (Some (b / 16))) low ∙ ap Some e

-- bytes

spaced-append : (xs ys : List ℕ) → spaced (xs ++ ys) ≡ spaced xs ++ spaced ys
spaced-append [] ys = refl
spaced-append (x ∷ xs) ys = ap (λ (cs : List ℕ). space ∷ (pair x ++ cs)) (spaced-append xs ys)

-- what stands before the byte at i
abbrev pub lead : ℕ → List ℕ
lead zero = []
lead (suc i) = space ∷ []

pub lead_later : (i : ℕ) → 0 < i → lead i ≡ space ∷ []
lead_later zero h = absurd (omega arith)
lead_later (suc i) h = refl

text_of-append : (xs : List ℕ) (b : ℕ) → text_of xs ++ (lead (length xs) ++ pair b) ≡ text_of (xs ++ b ∷ [])
text_of-append [] b = refl
text_of-append (x ∷ xs) b = ap (λ cs. pair x ++ cs) (sym (spaced-append xs (b ∷ [])))

pub text_of_more : (bytes : List ℕ) (i : ℕ) → i < length bytes
    → text_of (take i bytes) ++ (lead i ++ pair (get_or bytes i 0)) ≡ text_of (take (i + 1) bytes)
text_of_more bytes i h =
    ap (λ n. text_of (take i bytes) ++ (lead n ++ pair (get_or bytes i 0)))
    (sym (length-take-le i bytes (omega arith)))
    ∙ text_of-append (take i bytes) (get_or bytes i 0) ∙ sym (ap text_of (take_more bytes i 0 h))

pub text_of_all : (bytes : List ℕ) (i : ℕ) → length bytes ≤ i → text_of (take i bytes) ≡ text_of bytes
text_of_all bytes i h = ap text_of (take_all i bytes h)

read_pair : (b : ℕ) (bs : List ℕ) → b < 256
    → read_text (pair b ++ spaced bs) ≡ led_by (Some b) (read_text (spaced bs))
read_pair b bs h = read_front (pair b ++ spaced bs) b (front_pair b bs h)

read_spaced : (bs : List ℕ) → ((i : ℕ) → get_or bs i 0 < 256) → read_text (spaced bs) ≡ Some bs
read_spaced [] h = refl
read_spaced (b ∷ bs) h =
    read_space (pair b ++ spaced bs) ∙ read_pair b bs (h 0)
    ∙ ap (led_by (Some b)) (read_spaced bs (λ i. h (suc i)))

pub read_text_of : (bytes : List ℕ) → ((i : ℕ) → get_or bytes i 0 < 256)
    → read_text (text_of bytes) ≡ Some bytes
read_text_of [] h = refl
read_text_of (b ∷ bs) h = read_pair b bs (h 0) ∙ ap (led_by (Some b)) (read_spaced bs (λ i. h (suc i)))

-- formatters

-- a text and then another is cs
pub put_then : {W : Type 0} (took : W → List ℕ → W → Type 0) {f g h : Formatter W} {xs ys cs : List ℕ}
    → xs ++ ys ≡ cs → HasWritten took f xs g → (IsPlainFormatter g → HasWritten took g ys h)
    → HasWritten took f cs h
put_then took {f} {g} {h} {xs} {ys} {cs} e first second =
    has_written_of_eq took f (xs ++ ys) cs h e
    (has_written_append took f xs g ys h first (second first.plain))

-- what shows as a known text is written as that text
pub shown_as : {W : Type 0} (took : W → List ℕ → W → Type 0) {f g : Formatter W}
    (r : Result (Unit {0}) Error) {o : Option (List ℕ)} {bs : List ℕ} → o ≡ Some bs
    → DisplaysOnOk took f r o g → WritesOnOk took f r bs g
shown_as took {f} {g} r e shows = subst (λ (m : Option (List ℕ)). DisplaysOnOk took f r m g) e shows
