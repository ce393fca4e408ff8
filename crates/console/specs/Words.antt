-- The words of a line. Assumes nothing.
--     trimmed text       text without the white space at its ends
--     word text          what stands before the first space, which may be nothing
--     after_word text    all the rest
--     absent w           w begins a remark, or there is no word
use Rattle.std.specs.Prelude.{ℕ, ◌-◌, Bool, true, List, [], ◌∷◌, length, take, drop, ◌==◌}
use Rattle.std.specs.Char.{is_ascii_whitespace}
use Rattle.std.specs.List.{position_or_len, prefix_len, suffix_len}
use Rattle.hex_text.specs.Characters.{space}

-- what a remark begins with
abbrev pub remark : ℕ
remark = 35

-- text without the white space in front
abbrev pub unindented : List ℕ → List ℕ
unindented text = drop (prefix_len is_ascii_whitespace text) text

-- text without the white space behind
abbrev pub untailed : List ℕ → List ℕ
untailed text = take (length text - suffix_len is_ascii_whitespace text) text

-- text without the white space at its ends
abbrev pub trimmed : List ℕ → List ℕ
trimmed text = untailed (unindented text)

-- how many bytes stand before the first space
abbrev pub word_length : List ℕ → ℕ
word_length text = position_or_len (λ c. c == space) text

-- what stands before the first space
abbrev pub word : List ℕ → List ℕ
word text = take (word_length text) text

-- what follows the first word
abbrev pub after_word : List ℕ → List ℕ
after_word text = drop (word_length text) text

-- the word begins a remark, or there is none
abbrev pub absent : List ℕ → Bool
absent [] = true
absent (c ∷ _) = c == remark
