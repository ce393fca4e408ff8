-- What a line of a table answers, and what it leaves. Assumes nothing.
use Rattle.std.specs.Prelude.{◌≡◌, ℕ, List, Some, None, Ok, Err, codes, Option, Result, MatchBool}
use Rattle.std.specs.Prelude.{MatchOption, MatchResult}
use Rattle.std.specs.Option.{option_map}
use Rattle.std.specs.Str.{bytes_eq}
use Rattle.feedtrace.specs.declared.answer.Answer.{Answer}
use Rattle.feedtrace.specs.declared.answer.Answer.TheVariants as answer
use Rattle.feedtrace.specs.declared.expected.Expected.TheVariants as expected
use Rattle.feedtrace.specs.declared.failure.Failure.{Failure}
use Rattle.feedtrace.specs.declared.failure.Failure.TheVariants as failure
use Rattle.feedtrace.specs.declared.session.Session.{Session}
use Rattle.feedtrace.specs.Does.{pending}
use Rattle.feedtrace.specs.Drafts.{Pending, LineRead}
use Rattle.feedtrace.specs.Failures.{Carried, lacks}
use Rattle.feedtrace.specs.Loads.{Loaded}

-- the answer to a line, if it has one, or why there is none
abbrev pub Told : Type 0
Told = Result (Option Answer) Failure

-- the answer to a line that asks a task
abbrev pub answered : Carried → Told
answered (Ok o) = Ok (Some (answer.Task o))
answered (Err e) = Err e

-- the table p ended: it is loaded; or its command or one of its lines was wrong, what was expected there is
-- lacking, and the session is as it was
abbrev pub Ended : Pending → Session → Carried → Session → Type 0
Ended p s r t = MatchResult p.draft (λ d. Loaded d s r t) (λ e. (r ≡ lacks e) × (t ≡ s))

-- s without the table that is being read
abbrev pub closed : Session → Session
closed s = record { queries = s.queries; store = s.store; book = s.book; loading = None }

-- the table that is being read ended
abbrev pub Finished : Session → Told → Session → Type 0
Finished s r t =
    MatchOption (pending s) ((r ≡ Ok None) × (t ≡ s))
    (λ p. (c : Carried) × ((r ≡ answered c) × Ended p (closed s) c t))

-- the line was read into the table, if one is being read, and all else is as it was
pub record ReadInto (text : List ℕ) (s t : Session) : Type 0 where
  pub loading : MatchOption (pending s) (pending t ≡ None)
      (λ p. (q : Pending) × ((pending t ≡ Some q) × LineRead p text q))
  pub queries : t.queries ≡ s.queries
  pub store : t.store ≡ s.store
  pub book : t.book ≡ s.book

-- end ends the table, and any other line is read into it
abbrev pub TableLine : List ℕ → Session → Told → Session → Type 0
TableLine text s r t =
    MatchBool (bytes_eq text (codes "end")) (Finished s r t) ((r ≡ Ok None) × ReadInto text s t)

-- what is lacking where the input ends: the end of the table, if one is being read
abbrev pub unfinished : Option Pending → Option Failure
unfinished p = option_map (λ _. failure.Expected expected.End) p
