-- The table of a property store: a directory and one list of pairs. Assumes nothing.
--     section dir pairs i     the pairs of entry i
use Rattle.std.specs.Prelude.{◌≡◌, ℕ, zero, suc, ◌+◌, ◌-◌, ◌<◌, Bool, true, false, cond, ◌&&◌, List, [], ◌++◌}
use Rattle.std.specs.Prelude.{map, length, take, drop, ◌==◌, nat_le, nat_lt, slice_index_or}
use Rattle.triples.specs.declared.entry.DirectoryEntry.{DirectoryEntry}
use Rattle.triples.specs.declared.pair.Pair.{Pair}
use Rattle.triples.specs.declared.triple.Triple.{Triple}
use Rattle.triples.specs.Meaning.{term}
use Rattle.triples.specs.Tables.{triple_of}

-- what is read where there is no entry
abbrev pub no_entry : DirectoryEntry
no_entry = record { property = 0; first = 0 }

-- what is read where there is no pair
abbrev pub no_pair : Pair
no_pair = record { subject = 0; object = 0 }

-- the property of entry i
abbrev pub property_of : List DirectoryEntry → ℕ → ℕ
property_of dir i = (slice_index_or dir i no_entry).property

-- the place of entry i's first pair
abbrev pub first_of : List DirectoryEntry → ℕ → ℕ
first_of dir i = (slice_index_or dir i no_entry).first

-- the place behind entry i's pairs: the next entry's first place, or the number of pairs
abbrev pub end_of : List DirectoryEntry → ℕ → ℕ → ℕ
end_of dir pairs i = cond (nat_lt (i + 1) (length dir)) (first_of dir (i + 1)) pairs

-- the pairs of entry i
abbrev pub section : List DirectoryEntry → List Pair → ℕ → List Pair
section dir pairs i = take (end_of dir (length pairs) i - first_of dir i) (drop (first_of dir i) pairs)

-- the triples of entry i
abbrev pub section_triples : List DirectoryEntry → List Pair → ℕ → List Triple
section_triples dir pairs i = map (triple_of (property_of dir i)) (section dir pairs i)

-- the triples of the first n entries
abbrev pub triples_upto : List DirectoryEntry → List Pair → ℕ → List Triple
triples_upto dir pairs zero = []
triples_upto dir pairs (suc n) = triples_upto dir pairs n ++ section_triples dir pairs n

-- the triples of the table
abbrev pub table_triples : List DirectoryEntry → List Pair → List Triple
table_triples dir pairs = triples_upto dir pairs (length dir)

-- entry i goes on from the one before it: the first begins at place 0, a later one has a larger property and
-- no smaller place
abbrev pub follows : List DirectoryEntry → ℕ → Bool
follows dir zero = first_of dir 0 == 0
follows dir (suc i) = nat_lt (property_of dir i) (property_of dir (suc i))
    && nat_le (first_of dir i) (first_of dir (suc i))

-- entry i is in order, in a table of so many pairs: its property is a term, its place is not over the number
-- of pairs, and it goes on from the one before it
abbrev pub entry_good : ℕ → List DirectoryEntry → ℕ → ℕ → Bool
entry_good top dir pairs i =
    (term top (property_of dir i) && nat_le (first_of dir i) pairs) && follows dir i

-- every entry is in order
abbrev pub EntriesGood : ℕ → List DirectoryEntry → ℕ → Type 0
EntriesGood top dir pairs = (i : ℕ) → i < length dir → entry_good top dir pairs i ≡ true

-- entry i is not in order, and those before it are
pub record FirstBroken (top : ℕ) (dir : List DirectoryEntry) (pairs i : ℕ) : Type 0 where
  pub inside : i < length dir
  pub bad : entry_good top dir pairs i ≡ false
  pub earlier : (k : ℕ) → k < i → entry_good top dir pairs k ≡ true
