-- Laws of tasks: a store that was asked and is as it was, and outcomes. Assumes nothing.
use Rattle.std.proofs.Common.{◌≡◌, Some, Ok, Err, Option, sym, ap, ◌∙◌, subst, MatchOption}
use Rattle.std.specs.Prelude.{MatchResult}
use Rattle.triples.specs.Meaning.{Meaning}
use Rattle.feedtrace.specs.Does.{Comes}
use Rattle.feedtrace.specs.Failures.{Carried, Done, lacks}
use Rattle.feedtrace.specs.declared.expected.Expected.TheVariants as expected
use Rattle.feedtrace.specs.Layerings.{Layered, layered_meaning}
use Rattle.feedtrace.specs.declared.failure.Failure.{Failure}
use Rattle.feedtrace.specs.declared.outcome.Outcome.{Outcome}
use Rattle.feedtrace.specs.declared.session.Session.{Session}
use Rattle.feedtrace.specs.Tasks.{Asked}

pub asked_some : (P : Meaning → Carried → Type 0) (s : Session) (l m : Layered) (r : Carried)
    → s.store ≡ Some l
    → m ≡ l → P (layered_meaning l) r
    → Asked P s r (record { queries = s.queries; store = Some m; book = s.book; loading = s.loading })
asked_some P s l m r is same p = (
  ap (λ (o : Option Layered). record { queries = s.queries; store = o; book = s.book; loading = s.loading })
      (ap Some same ∙ sym is),
  subst (λ (o : Option Layered). MatchOption o (r ≡ lacks expected.Store) (λ l. P (layered_meaning l) r))
      (sym is) p,
)

pub Comes-from_map : (P : Session → Carried → Session → Type 0) (s t : Session) (r : Carried) (m : Done)
    (A : Outcome → Type 0)
    (B : Failure → Type 0) → ((o : Outcome) → A o → m ≡ Ok (Some o)) → ((e : Failure) → B e → m ≡ Err e)
    → MatchResult r A B → P s r t → Comes P s m t
Comes-from_map P s t (Ok o) m A B has fails is p = rw (has o is) p
Comes-from_map P s t (Err e) m A B has fails is p = rw (fails e is) p
