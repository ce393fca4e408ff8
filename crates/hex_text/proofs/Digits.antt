-- What the library says of digits is what this crate does. Assumes nothing.
use Rattle.std.proofs.Common.{◌≡◌, ℕ, ◌<◌, List, [], ◌∷◌, length, get_or, Some, None, Option, refl, arith}
use Rattle.std.proofs.lemmas.Bool.Decides.{nat_tests}
use Rattle.std.specs.Char as char
use Rattle.hex_text.specs.Characters.{digit_value}
use Rattle.hex_text.specs.Reading.{byte_value}
use Rattle.hex_text.specs.Words.{word_value}

-- digits

pub digit_some : (c n d : ℕ) → n ≡ c → (char.digit_value n < 16) × (d ≡ char.digit_value n)
    → digit_value c ≡ Some d
digit_some c n d e h = grind (arith, nat_tests)

pub digit_none : (c n : ℕ) → n ≡ c → (char.digit_value n < 16 → ⊥) → digit_value c ≡ None
digit_none c n e h = grind (arith, nat_tests)

-- a byte

pub byte_value-none : (m : Option ℕ) → byte_value m None ≡ None
byte_value-none None = refl
byte_value-none (Some b) = refl

-- a word of two characters makes the byte that they make
pub word_value_two : (word : List ℕ) → length word ≡ 2
    → word_value word ≡ byte_value (digit_value (get_or word 0 0)) (digit_value (get_or word 1 0))
word_value_two [] e = absurd (omega arith)
word_value_two (c ∷ []) e = absurd (omega arith)
word_value_two (c ∷ d ∷ []) e = refl
word_value_two (c ∷ d ∷ x ∷ word) e = absurd (omega arith)
