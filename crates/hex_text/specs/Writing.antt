-- The text of bytes. Assumes nothing.
use Rattle.std.specs.Prelude.{ℕ, ◌/◌, ◌%◌, List, [], ◌∷◌, ◌++◌}
use Rattle.hex_text.specs.Characters.{digit_of, space}

-- the two digits of the byte b
abbrev pub pair : ℕ → List ℕ
pair b = digit_of (b / 16) ∷ digit_of (b % 16) ∷ []

-- bytes that follow others: a space before each
abbrev pub spaced : List ℕ → List ℕ
spaced [] = []
spaced (b ∷ bs) = space ∷ (pair b ++ spaced bs)

-- the text of bytes: two capital digits each, one space between
abbrev pub text_of : List ℕ → List ℕ
text_of [] = []
text_of (b ∷ bs) = pair b ++ spaced bs
