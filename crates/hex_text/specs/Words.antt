-- The words of a text, and the bytes that they make. Assumes nothing.
use Rattle.std.specs.Prelude.{ℕ, Bool, ◌||◌, List, [], ◌∷◌, length, is_some, None, Option, ◌==◌}
use Rattle.std.specs.List.{slice_split}
use Rattle.hex_text.specs.Characters.{digit_value, space}
use Rattle.hex_text.specs.Reading.{byte_value}

-- the words of a text: what stands before, between and behind its spaces
abbrev pub words : List ℕ → List (List ℕ)
words text = slice_split (λ c. c == space) text

-- the byte that a word of two digits makes; none for any other word
abbrev pub word_value : List ℕ → Option ℕ
word_value (high ∷ low ∷ []) = byte_value (digit_value high) (digit_value low)
word_value _ = None

-- the word is empty, or two digits that make a byte
abbrev pub is_word : List ℕ → Bool
is_word word = length word == 0 || is_some (word_value word)
