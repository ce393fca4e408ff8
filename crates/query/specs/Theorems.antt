-- What this crate proves of queries and their bytes. Assumes nothing.
--     by_number r          r refuses one number for what it is: 12 to 15
--     number_end at bytes  the place behind the number that begins at the place at
use Rattle.std.specs.Prelude.{◌≡◌, ℕ, ◌+◌, Bool, true, List, take, drop}
use Rattle.varint.specs.Decode.{span}
use Rattle.refusal.specs.declared.refusal.Refusal.{Refusal}
use Rattle.refusal.specs.Numbers.{published}
use Rattle.query.specs.Parts.{Group}
use Rattle.query.specs.Limits.{within}
use Rattle.query.specs.Format.{bytes_of}
use Rattle.query.specs.Lawful.{lawful}
use Rattle.query.specs.Grammar.{accepted, rejected, verdict}

-- a byte string is accepted as q exactly if q is lawful and the string is its writing
abbrev pub AcceptedExactly : Type 0
AcceptedExactly = (bytes : List ℕ) (q : List Group)
    → (verdict bytes ≡ accepted q → (lawful q ≡ true) × (bytes ≡ bytes_of q))
    × (lawful q ≡ true → bytes ≡ bytes_of q → verdict bytes ≡ accepted q)

-- no two byte strings are the same query, and no two lawful queries have the same bytes
abbrev pub OneWritingEach : Type 0
OneWritingEach =
    ((bytes other : List ℕ) (q : List Group) → verdict bytes ≡ accepted q → verdict other ≡ accepted q
    → bytes ≡ other)
    × ((q r : List Group) → lawful q ≡ true → lawful r ≡ true → bytes_of q ≡ bytes_of r → q ≡ r)

-- r refuses one number for what it is
abbrev pub by_number : Refusal → Bool
by_number r = within 12 15 (published r)

-- the place behind the number that begins at the place at
abbrev pub number_end : ℕ → List ℕ → ℕ
number_end at bytes = at + span (drop at bytes)

-- after a refusal of one number, every byte string that agrees up to the end of that number is refused alike
abbrev pub RefusedForGood : Type 0
RefusedForGood = (bytes other : List ℕ) (r : Refusal) (at : ℕ) → verdict bytes ≡ rejected r at
    → by_number r ≡ true
    → take (number_end at bytes) other ≡ take (number_end at bytes) bytes → verdict other ≡ rejected r at
