-- What reading a byte string answers. Assumes nothing.
--     Unwritten bytes    no lawful query has these bytes
--     Barred bytes e     no byte string that agrees with bytes up to the end of the number refused has a
--                        lawful query's bytes
use Rattle.std.specs.Prelude.{◌≡◌, ℕ, true, List, take, Ok, Err, Result, ◌≢◌}
use Rattle.refusal.specs.declared.rejection.Rejection.{Rejection}
use Rattle.query.specs.declared.error.ReadError.{ReadError}
use Rattle.query.specs.declared.error.ReadError.TheVariants.{Refused, Memory}
use Rattle.query.specs.declared.query.Query.{Query}
use Rattle.query.specs.Parts.{Group}
use Rattle.query.specs.Format.{bytes_of}
use Rattle.query.specs.Lawful.{lawful}
use Rattle.query.specs.Shape.{shape}
use Rattle.query.specs.Grammar.{accepted, rejected, verdict}
use Rattle.query.specs.Theorems.{by_number, number_end}

-- the bytes are the writing of no lawful query
abbrev pub Unwritten : List ℕ → Type 0
Unwritten bytes = (q : List Group) → lawful q ≡ true → bytes ≢ bytes_of q

-- where one number is refused for what it is, nothing that follows it can mend that
abbrev pub Barred : List ℕ → Rejection → Type 0
Barred bytes e = by_number e.refusal ≡ true → (other : List ℕ)
    → take (number_end e.place bytes) other ≡ take (number_end e.place bytes) bytes → Unwritten other

-- the bytes are a query, or are refused with that number and place
abbrev pub Checked : {T : Type 0} → List ℕ → Result T Rejection → Type 0
Checked bytes (Ok _) = (q : List Group) × (verdict bytes ≡ accepted q)
Checked bytes (Err e) = verdict bytes ≡ rejected e.refusal e.place

-- the bytes are the writing of a lawful query, or of none
abbrev pub Recognised : {T : Type 0} → List ℕ → Result T Rejection → Type 0
Recognised bytes (Ok _) = (q : List Group) × ((lawful q ≡ true) × (bytes ≡ bytes_of q))
Recognised bytes (Err e) = Unwritten bytes × Barred bytes e

-- the query that the bytes are; or their refusal; or they are a query, and there is no memory for it
abbrev pub Answered : List ℕ → Result Query ReadError → Type 0
Answered bytes (Ok q) = verdict bytes ≡ accepted (shape q)
Answered bytes (Err (Refused e)) = verdict bytes ≡ rejected e.refusal e.place
Answered bytes (Err Memory) = (q : List Group) × (verdict bytes ≡ accepted q)

-- the lawful query whose writing the bytes are; or they are of none; or of one, and memory is wanting
abbrev pub Recovered : List ℕ → Result Query ReadError → Type 0
Recovered bytes (Ok q) = (lawful (shape q) ≡ true) × (bytes ≡ bytes_of (shape q))
Recovered bytes (Err (Refused e)) = Unwritten bytes × Barred bytes e
Recovered bytes (Err Memory) = (q : List Group) × ((lawful q ≡ true) × (bytes ≡ bytes_of q))
