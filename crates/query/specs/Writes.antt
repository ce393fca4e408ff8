-- What writing does to a buffer. Assumes nothing.
use Rattle.std.specs.Prelude.{◌≡◌, ℕ, ◌+◌, ◌<◌, ◌≤◌, Bool, true, ◌&&◌, List, length, Ok, Err, Result}
use Rattle.varint.specs.Calls.{placed}
use Rattle.refusal.specs.declared.refusal.Refusal.TheVariants.{BufferShort}
use Rattle.refusal.specs.declared.rejection.Rejection.{Rejection}
use Rattle.query.specs.declared.node.Node.{Node}
use Rattle.query.specs.declared.put.Writer.{Writer}
use Rattle.query.specs.declared.node.Node.TheVariants.{Equal, Less, Bound, Not, And, Or}
use Rattle.query.specs.Limits.{lawful_place}

-- the bytes stand at the place at, over what stood there, and r is the place behind them
abbrev pub Put : List ℕ → ℕ → List ℕ → ℕ → List ℕ → Type 0
Put bytes at before r after = (r ≡ at + length bytes) × (after ≡ placed before at bytes)

-- the bytes fit between the writer's place and the end of its buffer
abbrev pub Fits : List ℕ → Writer → Type 0
Fits bytes w = w.at + length bytes ≤ length w.out.now

-- from w to w' the bytes were put where the writer was, in the same buffer
pub record Puts (bytes : List ℕ) (w w' : Writer) : Type 0 where
  pub put : Put bytes w.at w.out.now w'.at w'.out.now
  pub same : w'.out.ghost_name ≡ w.out.ghost_name

-- the places that the node compares are lawful
abbrev pub places_lawful : Node → Bool
places_lawful (Equal a b) = lawful_place a && lawful_place b
places_lawful (Less a b) = lawful_place a && lawful_place b
places_lawful (Bound v) = true
places_lawful (Not a) = true
places_lawful (And a b) = true
places_lawful (Or a b) = true

-- the bytes stand at the front of the buffer, their length answered, and what is behind them is as it was;
-- or the buffer is too short for them, which is refused with no place, and it is as it was
abbrev pub Written : List ℕ → List ℕ → Result ℕ Rejection → List ℕ → Type 0
Written bytes before (Ok n) after =
    (length bytes ≤ length before) × (n ≡ length bytes) × (after ≡ placed before 0 bytes)
Written bytes before (Err e) after =
    (length before < length bytes) × (e ≡ record { refusal = BufferShort; place = 0 }) × (after ≡ before)
