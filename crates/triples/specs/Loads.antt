-- What loading a table answers. Assumes nothing.
use Rattle.std.specs.Prelude.{◌≡◌, ℕ, Some, None, Ok, Err, vec_items, Result, Vec}
use Rattle.std.specs.declared.alloc.Global.{Global}
use Rattle.refusal.specs.declared.declined.Declined.{Declined}
use Rattle.triples.specs.declared.property_store.PropertyStore.{PropertyStore}
use Rattle.triples.specs.declared.property_store.PropertyTable.{PropertyTable}
use Rattle.triples.specs.declared.row_store.RowStore.{RowStore}
use Rattle.triples.specs.declared.triple.Triple.{Triple}
use Rattle.triples.specs.Rows.{RowsOutcome}
use Rattle.triples.specs.Sections.{TableOutcome}

-- the store has the top and the list, or the refusal is the table's and the list comes back
abbrev pub RowsLoaded : ℕ → Vec Triple Global → Result RowStore (Declined (Vec Triple Global)) → Type 0
RowsLoaded top rows (Ok s) = RowsOutcome top (vec_items rows) None × (s.top ≡ top) × (s.rows ≡ rows)
RowsLoaded top rows (Err d) =
    RowsOutcome top (vec_items rows) (Some d.rejection) × (d.given ≡ rows)

-- the store has the top and the lists, or the refusal is the table's and the lists come back
abbrev pub TableLoaded : ℕ → PropertyTable → Result PropertyStore (Declined PropertyTable) → Type 0
TableLoaded top table (Ok s) =
    TableOutcome top (vec_items table.directory) (vec_items table.pairs) None
    × (s.top ≡ top) × (s.directory ≡ table.directory) × (s.pairs ≡ table.pairs)
TableLoaded top table (Err d) =
    TableOutcome top (vec_items table.directory) (vec_items table.pairs) (Some d.rejection)
    × (d.given ≡ table)
