-- What the session ends as, where its current store is lent. Assumes nothing.
use Rattle.std.specs.Prelude.{◌≡◌, Some, None, Result, MatchResult}
use Rattle.std.specs.Borrow.{LendsIfOk, Fml, MutBor, RattleType}
use Rattle.feedtrace.specs.contracts.session.Session.{the_row}
use Rattle.feedtrace.specs.contracts.either.Either.{the_row as either_row}
use Rattle.triples.specs.contracts.row_store.RowStore.{the_row as rows_row}
use Rattle.triples.specs.contracts.property_store.PropertyStore.{the_row as properties_row}
use Rattle.layers.specs.contracts.inverse.Inverse.{the_row as inverse_row}
use Rattle.layers.specs.contracts.withdrawn.Withdrawn.{the_row as withdrawn_row}
use Rattle.feedtrace.specs.declared.session.Session.{Session}
use Rattle.feedtrace.specs.declared.expected.Expected.{Expected}
use Rattle.feedtrace.specs.declared.expected.Expected.TheVariants as expected
use Rattle.feedtrace.specs.Layerings.{Layered}

-- how a table lies in memory
abbrev table_row : RattleType
table_row = either_row rows_row properties_row

-- the same of a table, or an inverse layer over one
abbrev inverted_row : RattleType
inverted_row = either_row table_row (inverse_row table_row)

-- the same of such a one, or a withdrawn layer over it
abbrev layered_row : RattleType
layered_row = either_row inverted_row (withdrawn_row inverted_row)

-- s with that store
abbrev pub with_store : Session → Layered → Session
with_store s l = record s { store = Some l }

-- the current store is lent; where there is none, the session is as it was
abbrev pub LendsStore : MutBor Session → Result (MutBor Layered) Expected → Fml
LendsStore s r = LendsIfOk the_row layered_row s r (with_store s.now) s.now

-- the result is the current store, or there is none
abbrev pub StoreOf : Session → Result (MutBor Layered) Expected → Type 0
StoreOf s r = MatchResult r (λ l. s.store ≡ Some l.now) (λ e. (e ≡ expected.Store) × (s.store ≡ None))
