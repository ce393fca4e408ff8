-- What a table of either kind means. Assumes nothing.
use Rattle.triples.specs.declared.property_store.PropertyStore.{PropertyStore}
use Rattle.triples.specs.declared.row_store.RowStore.{RowStore}
use Rattle.triples.specs.Meaning.{Meaning}
use Rattle.triples.specs.Theorems as stores
use Rattle.feedtrace.specs.declared.either.Either.{Either}
use Rattle.feedtrace.specs.Eithers.{either_of}

-- a row store or a property store
abbrev pub Table : Type 0
Table = Either RowStore PropertyStore

-- the meaning of the store that the table is
abbrev pub table_meaning : Table → Meaning
table_meaning = either_of stores.rows_meaning stores.table_meaning
