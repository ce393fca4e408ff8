-- The lines of a table. Assumes nothing.
use Rattle.std.specs.Prelude.{◌≡◌, ℕ, ◌⊎◌, List, [], ◌∷◌, ◌++◌, Some, None, Ok, Err, Option, Result}
use Rattle.triples.specs.declared.entry.DirectoryEntry.{DirectoryEntry}
use Rattle.triples.specs.declared.pair.Pair.{Pair}
use Rattle.triples.specs.declared.triple.Triple.{Triple}
use Rattle.catalogue.specs.declared.record.Record.{Record}
use Rattle.feedtrace.specs.declared.expected.Expected.{Expected}
use Rattle.feedtrace.specs.Failures.{memory}
use Rattle.feedtrace.specs.Fields.{◌>>=◌, alone, first_number, first_signed, first_triple, only}

-- a triple
abbrev pub row_line : List ℕ → Option Triple
row_line text = only (first_triple text)

-- a directory entry
abbrev pub entry_line : List ℕ → Option DirectoryEntry
entry_line text = do
  property ← first_number text
  first ← first_number property.1
  alone (record { property = property.0; first = first.0 }) first.1

-- a pair
abbrev pub pair_line : List ℕ → Option Pair
pair_line text = do
  subject ← first_number text
  object ← first_number subject.1
  alone (record { subject = subject.0; object = object.0 }) object.1

-- a kind and a value with its sign
abbrev pub record_line : List ℕ → Option Record
record_line text = do
  kind ← first_number text
  value ← first_signed kind.1
  alone (record { kind = kind.0; value = value.0 }) value.1

-- the element, if there is one, was put behind the list; or there is none and `wanted` is expected, or memory
-- is wanting, and the list is as it was
abbrev pub Pushed : {A U : Type 0} → Expected → Option A → List A → Result U Expected → List A → Type 0
Pushed {A} wanted m xs (Ok _) ys = (x : A) × ((m ≡ Some x) × (ys ≡ xs ++ x ∷ []))
Pushed {A} wanted m xs (Err e) ys =
    (ys ≡ xs) × (((e ≡ wanted) × (m ≡ None))
    ⊎ ((e ≡ memory) × ((x : A) × (m ≡ Some x))))
