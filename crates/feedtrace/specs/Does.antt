-- What each task does. Assumes nothing.
use Rattle.std.specs.Prelude.{◌≡◌, [], Some, None, Ok, Err, Option, Result, IsOkAnd}
use Rattle.std.specs.Option.{option_map}
use Rattle.catalogue.specs.Inlining.{inlined}
use Rattle.feedtrace.specs.declared.expected.Expected.{Expected}
use Rattle.feedtrace.specs.declared.expected.Expected.TheVariants as expected
use Rattle.feedtrace.specs.declared.outcome.Outcome.{Outcome}
use Rattle.feedtrace.specs.declared.outcome.Outcome.TheVariants as outcome
use Rattle.feedtrace.specs.declared.session.Session.{Session}
use Rattle.feedtrace.specs.declared.task.Task.{Task}
use Rattle.feedtrace.specs.declared.task.Task.TheVariants as task
use Rattle.feedtrace.specs.Books.{book_entries}
use Rattle.feedtrace.specs.Drafts.{Draft, rows, properties, records, Pending, pending_of}
use Rattle.feedtrace.specs.Failures.{Carried, Done}
use Rattle.feedtrace.specs.Laying.{Changed, InverseOn, WithdrawnOn, WithdrewOn, RestoredOn}
use Rattle.feedtrace.specs.Judging.{Judged}
use Rattle.feedtrace.specs.Loads.{ButBook}
use Rattle.feedtrace.specs.Tasks.{Asked, Looked, SeekAnswer, LeapAnswer, ScanAnswer, TraceAnswer}

-- what is to be loaded, if a table is being read
abbrev pub pending : Session → Option Pending
pending s = option_map pending_of s.loading

-- a table with these lists was begun, or one of whose command something else was expected, and all else is as
-- it was
pub record Begun (d : Result Draft Expected) (s t : Session) : Type 0 where
  pub loading : pending t ≡ Some (record { lines = 0; draft = d })
  pub queries : t.queries ≡ s.queries
  pub store : t.store ≡ s.store
  pub book : t.book ≡ s.book

-- the inline catalogue is current, and all else is as it was
abbrev pub Inlined : Session → Outcome → Session → Type 0
Inlined s o t = (o ≡ outcome.Inline) × (book_entries t.book ≡ inlined) × ButBook s t

-- the task has an outcome or is not carried out, and P holds of that
abbrev pub Comes : (Session → Carried → Session → Type 0) → Session → Done → Session → Type 0
Comes P s (Ok None) t = ⊥
Comes P s (Ok (Some o)) t = P s (Ok o) t
Comes P s (Err e) t = P s (Err e) t

-- the task has an outcome, and P holds of that
abbrev pub Gives : (Session → Outcome → Session → Type 0) → Session → Done → Session → Type 0
Gives P s r t = Comes (λ a c b. IsOkAnd c (λ o. P a o b)) s r t

-- what the task answers and leaves; where it begins a table, there is no outcome yet
abbrev pub Does : Task → Session → Done → Session → Type 0
Does (task.RowStore top) s r t = (r ≡ Ok None) × Begun (Ok (rows top [])) s t
Does (task.PropertyStore top) s r t = (r ≡ Ok None) × Begun (Ok (properties top [] [])) s t
Does task.InlineCatalogue s r t = Gives Inlined s r t
Does task.ListedCatalogue s r t = (r ≡ Ok None) × Begun (Ok (records [])) s t
Does (task.MalformedTable v) s r t = (r ≡ Ok None) × Begun (Err (expected.Form v)) s t
Does (task.Inverse p q) s r t = Comes (Changed (InverseOn p q)) s r t
Does task.Withdrawn s r t = Comes (Changed WithdrawnOn) s r t
Does (task.Withdraw x) s r t = Comes (Changed (WithdrewOn x)) s r t
Does (task.Restore x) s r t = Comes (Changed (RestoredOn x)) s r t
Does (task.Seek selector start) s r t = Comes (Asked (SeekAnswer selector start)) s r t
Does (task.Leap position selector bound) s r t = Comes (Asked (LeapAnswer position selector bound)) s r t
Does (task.Lookup number) s r t = Gives (Looked number) s r t
Does (task.Scan selector) s r t = Comes (Asked (ScanAnswer selector)) s r t
Does (task.Trace term) s r t = Comes (Asked (TraceAnswer term)) s r t
Does (task.Filter part row) s r t = Comes (Judged part row) s r t
