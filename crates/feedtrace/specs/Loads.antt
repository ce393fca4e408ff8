-- What the end of a table answers, and what it leaves. Assumes nothing.
use Rattle.std.specs.Prelude.{◌≡◌, ◌⊎◌, length, Some, None, Ok, vec_items}
use Rattle.refusal.specs.declared.rejection.Rejection.{Rejection}
use Rattle.triples.specs.declared.property_store.PropertyStore.{PropertyStore}
use Rattle.triples.specs.declared.row_store.RowStore.{RowStore}
use Rattle.triples.specs.Meaning.{listed}
use Rattle.triples.specs.Directory.{table_triples}
use Rattle.triples.specs.Rows.{RowsOutcome}
use Rattle.triples.specs.Sections.{TableOutcome}
use Rattle.triples.specs.Theorems.{rows_meaning, table_meaning}
use Rattle.catalogue.specs.Listing.{listed_outcome}
use Rattle.catalogue.specs.declared.listed.Listed as catalogues
use Rattle.feedtrace.specs.declared.either.Either.TheVariants.{Left, Right}
use Rattle.feedtrace.specs.declared.outcome.Outcome.TheVariants as outcome
use Rattle.feedtrace.specs.declared.session.Session.{Session}
use Rattle.feedtrace.specs.Drafts.{Draft, rows, properties, records}
use Rattle.feedtrace.specs.Failures.{Carried, refused}
use Rattle.feedtrace.specs.Layerings.{bare}
use Rattle.feedtrace.specs.Laying.{Beside}

-- the queries, the store and the table being read of t are those of s
pub record ButBook (s t : Session) : Type 0 where
  pub queries : t.queries ≡ s.queries
  pub store : t.store ≡ s.store
  pub loading : t.loading ≡ s.loading

-- the table was loaded and is current, without layers; or it is refused, and the session is as it was
abbrev pub Loaded : Draft → Session → Carried → Session → Type 0
Loaded (rows top xs) s r t =
    (RowsOutcome top xs None × (r ≡ Ok (outcome.Rows top (length xs)))
    × ((made : RowStore)
    × ((t.store ≡ Some (bare (Left made))) × (rows_meaning made ≡ listed top xs)))
    × Beside s t)
    ⊎ ((e : Rejection) × (RowsOutcome top xs (Some e) × (r ≡ refused e) × (t ≡ s)))
Loaded (properties top ds ps) s r t =
    (TableOutcome top ds ps None × (r ≡ Ok (outcome.Properties top (length ds) (length ps)))
    × ((made : PropertyStore) × ((t.store ≡ Some (bare (Right made)))
    × (table_meaning made ≡ listed top (table_triples ds ps))))
    × Beside s t)
    ⊎ ((e : Rejection) × (TableOutcome top ds ps (Some e) × (r ≡ refused e) × (t ≡ s)))
Loaded (records rs) s r t =
    ((listed_outcome rs ≡ None) × (r ≡ Ok (outcome.Listed (length rs)))
    × ((made : catalogues.Listed) × ((t.book ≡ Right made) × (vec_items made.records ≡ rs)))
    × ButBook s t)
    ⊎ ((e : Rejection) × ((listed_outcome rs ≡ Some e) × (r ≡ refused e) × (t ≡ s)))
