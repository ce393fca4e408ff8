-- What stands first in the rest of a line, and what follows it. Assumes nothing.
--     first_number text     the number that stands first, and what follows it
--     only m                that value, if nothing follows it
use Rattle.std.specs.Prelude.{◌≡◌, ℕ, zero, suc, cond, List, [], ◌∷◌, ℤ, Some, None, codes, Option}
use Rattle.std.specs.Prelude.{MatchOption, option_and_then}
use Rattle.std.specs.Str.{bytes_eq}
use Rattle.triples.specs.declared.position.Position.{Position}
use Rattle.triples.specs.declared.position.Position.TheVariants.{Subject, Property, Object}
use Rattle.triples.specs.declared.triple.Triple.{Triple}
use Rattle.console.specs.Numerals.{number_from}
use Rattle.console.specs.Words.{after_word, unindented, word}
use Rattle.filter.specs.Rows.{Row}
use Rattle.feedtrace.specs.Numerals.{most_number, signed_from}

-- what f makes of the value, if there is one
infixl 10 ◌>>=◌
abbrev pub ◌>>=◌ : {A B : Type 0} → Option A → (A → Option B) → Option B
m >>= f = option_and_then f m

-- the word that stands first in text, behind white space
abbrev pub next_word : List ℕ → List ℕ
next_word text = word (unindented text)

-- what follows it
abbrev pub behind_word : List ℕ → List ℕ
behind_word text = after_word (unindented text)

-- x with the rest behind it
abbrev pub beside : {A : Type 0} → List ℕ → Option A → Option (A × List ℕ)
beside rest m = m >>= (λ x. Some (x, rest))

-- what the word that stands first is read as, and what follows it
abbrev pub first_as : {A : Type 0} → (List ℕ → Option A) → List ℕ → Option (A × List ℕ)
first_as read text = beside (behind_word text) (read (next_word text))

-- the number that stands first in text, and what follows it
abbrev pub first_number : List ℕ → Option (ℕ × List ℕ)
first_number = first_as (number_from most_number)

-- the number with its sign that stands first, and what follows it
abbrev pub first_signed : List ℕ → Option (ℤ × List ℕ)
first_signed = first_as signed_from

-- the three numbers that stand first, as a triple, and what follows them
abbrev pub first_triple : List ℕ → Option (Triple × List ℕ)
first_triple text = do
  s ← first_number text
  p ← first_number s.1
  o ← first_number p.1
  Some (record { subject = s.0; property = p.0; object = o.0 }, o.1)

-- the n numbers that stand first, and what follows them
abbrev pub first_numbers : ℕ → List ℕ → Option (List ℕ × List ℕ)
first_numbers zero text = Some ([], text)
first_numbers (suc n) text = do
  v ← first_number text
  vs ← first_numbers n v.1
  Some (v.0 ∷ vs.0, vs.1)

-- the sixteen numbers that stand first, as a row, and what follows them
unfoldable pub first_row : List ℕ → Option (Row × List ℕ)
first_row = first_numbers 16

-- the position that a word names
abbrev pub position_of : List ℕ → Option Position
position_of w =
    cond (bytes_eq w (codes "subject")) (Some Subject)
    (cond (bytes_eq w (codes "property")) (Some Property)
    (cond (bytes_eq w (codes "object")) (Some Object) None))

-- the position whose name stands first, and what follows it
abbrev pub first_position : List ℕ → Option (Position × List ℕ)
first_position = first_as position_of

-- the word from
abbrev pub from_of : List ℕ → Option (Unit {0})
from_of w = cond (bytes_eq w (codes "from")) (Some tt) None

-- the word from, if it stands first, and what follows it
abbrev pub first_from : List ℕ → Option (Unit {0} × List ℕ)
first_from = first_as from_of

-- the value, if nothing follows it
abbrev pub alone : {A : Type 0} → A → List ℕ → Option A
alone x [] = Some x
alone x (c ∷ cs) = None

-- the value, if there is one and nothing follows it
abbrev pub only : {A : Type 0} → Option (A × List ℕ) → Option A
only m = m >>= (λ x. alone x.0 x.1)

-- r is the value, and rest is what follows it
abbrev pub Parted : {A : Type 0} → Option A → List ℕ → Option (A × List ℕ) → Type 0
Parted r rest m = MatchOption r (m ≡ None) (λ x. m ≡ Some (x, rest))
