-- What this crate proves of both kinds of store. Assumes nothing.
use Rattle.std.specs.Prelude.{◌≡◌, ℕ, ◌<◌, ◌≤◌, List, length, vec_items, slice_index_or}
use Rattle.triples.specs.declared.entry.DirectoryEntry.{DirectoryEntry}
use Rattle.triples.specs.declared.pair.Pair.{Pair}
use Rattle.triples.specs.declared.property_store.PropertyStore.{PropertyStore}
use Rattle.triples.specs.declared.row_store.RowStore.{RowStore}
use Rattle.triples.specs.declared.triple.Triple.{Triple}
use Rattle.triples.specs.Meaning.{Meaning, listed}
use Rattle.triples.specs.Directory.{property_of, first_of, end_of, table_triples}

-- t stands in the list of rows
pub record InRows (rows : List Triple) (t : Triple) : Type 0 where
  pub place : ℕ
  pub inside : place < length rows
  pub is : (d : Triple) → slice_index_or rows place d ≡ t

-- t stands in the table: an entry has its property, and one of the entry's pairs its subject and object
pub record InTable (dir : List DirectoryEntry) (pairs : List Pair) (t : Triple) : Type 0 where
  pub entry : ℕ
  pub place : ℕ
  pub listed : entry < length dir
  pub begun : first_of dir entry ≤ place
  pub ended : place < end_of dir (length pairs) entry
  pub inside : place < length pairs
  pub named : property_of dir entry ≡ t.property
  pub is : (d : Pair) → slice_index_or pairs place d ≡ record { subject = t.subject; object = t.object }

-- what a row store means
abbrev pub rows_meaning : RowStore → Meaning
rows_meaning s = listed s.top (vec_items s.rows)

-- what a property store means
abbrev pub table_meaning : PropertyStore → Meaning
table_meaning s = listed s.top (table_triples (vec_items s.directory) (vec_items s.pairs))

-- a property store and a row store with the same top, in which the same triples stand, have equal meanings
abbrev pub SameTriplesSameMeaning : Type 0
SameTriplesSameMeaning =
    (p : PropertyStore) (r : RowStore) → p.top ≡ r.top
    → ((t : Triple) → InTable (vec_items p.directory) (vec_items p.pairs) t
    → InRows (vec_items r.rows) t)
    → ((t : Triple) → InRows (vec_items r.rows) t → InTable (vec_items p.directory)
    (vec_items p.pairs) t)
    → table_meaning p ≡ rows_meaning r
