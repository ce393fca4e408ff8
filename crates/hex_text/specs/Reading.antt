-- What a text stands for, if it is bytes. Assumes nothing.
--     front text        the byte whose digits begin the text
--     read_text text    all its bytes, or none where it is something else
--     GoesOn text rest  rest is shorter, and is bytes exactly if the text is
use Rattle.std.specs.Prelude.{◌≡◌, ℕ, ◌+◌, ◌*◌, ◌<◌, Bool, true, cond, List, [], ◌∷◌, length, is_some}
use Rattle.std.specs.Prelude.{Some, None, Option, ◌==◌}
use Rattle.hex_text.specs.Characters.{digit_value, space}

-- the text that comes behind two digits is empty or begins with a space
abbrev pub parted : List ℕ → Bool
parted [] = true
parted (c ∷ _) = c == space

-- the byte that two digits make, by what they count, the higher first; none where one is no digit
abbrev pub byte_value : Option ℕ → Option ℕ → Option ℕ
byte_value None low = None
byte_value (Some high) None = None
byte_value (Some high) (Some low) = Some (16 * high + low)

-- the byte whose two digits begin the text; none where the text begins otherwise
abbrev pub front : List ℕ → Option ℕ
front [] = None
front (c ∷ []) = None
front (c ∷ d ∷ rest) = cond (parted rest) (byte_value (digit_value c) (digit_value d)) None

-- the bytes bs with b before them; none where one of them is none
abbrev pub led_by : Option ℕ → Option (List ℕ) → Option (List ℕ)
led_by None bs = None
led_by (Some b) None = None
led_by (Some b) (Some bs) = Some (b ∷ bs)

-- the bytes that the text stands for: a space is passed over, two digits are a byte, all else is refused
abbrev pub read_text : List ℕ → Option (List ℕ)
read_text [] = Some []
read_text (c ∷ []) = cond (c == space) (Some []) None
read_text (c ∷ d ∷ rest) =
    cond (c == space) (read_text (d ∷ rest)) (led_by (front (c ∷ d ∷ rest)) (read_text rest))

-- rest is shorter than the text, and stands for bytes exactly if the text does
abbrev pub GoesOn : List ℕ → List ℕ → Type 0
GoesOn text rest = (length rest < length text) × (is_some (read_text rest) ≡ is_some (read_text text))
