-- What a session answers to a line, and what is current behind it. Assumes nothing.
--     Answered l s r t     from the session s, the line l is answered by r and leaves the session t
use Rattle.std.specs.Prelude.{◌≡◌, ℕ, List, Some, None, Ok, Err, Option, Result, MatchOption}
use Rattle.std.specs.Option.{option_map}
use Rattle.console.specs.declared.answer.Answer as answers
use Rattle.console.specs.declared.failure.Failure as failures
use Rattle.console.specs.Sessions as console
use Rattle.console.specs.Words.{trimmed}
use Rattle.feedtrace.specs.declared.answer.Answer.TheVariants.{Query, Task}
use Rattle.feedtrace.specs.declared.expected.Expected.{Expected}
use Rattle.feedtrace.specs.declared.session.Session.{Session}
use Rattle.feedtrace.specs.declared.task.Task as tasks
use Rattle.feedtrace.specs.Does.{Does}
use Rattle.feedtrace.specs.Failures.{Done, failure_for, lacks}
use Rattle.feedtrace.specs.Forms.{task_asked}
use Rattle.feedtrace.specs.Lines.{Told, TableLine}

-- the answer to a line about queries, as one of this console
abbrev pub told : Result (Option answers.Answer) failures.Failure → Told
told (Ok None) = Ok None
told (Ok (Some a)) = Ok (Some (Query a))
told (Err e) = Err (failure_for e)

-- the outcome of a task, if it has one, as an answer of this console
abbrev pub said : Done → Told
said (Ok o) = Ok (option_map Task o)
said (Err e) = Err e

-- the line was answered as one about queries, and all but these is as it was
pub record Passed (line : List ℕ) (s : Session) (r : Told) (t : Session) : Type 0 where
  pub answer : (x : Result (Option answers.Answer) failures.Failure)
      × ((r ≡ told x) × console.Answered line s.queries x t.queries)
  pub store : t.store ≡ s.store
  pub book : t.book ≡ s.book
  pub loading : t.loading ≡ s.loading

-- the answer to a line that asks this of tables, layers and questions, and the session behind it: the task
-- is carried out, or the line is one about queries, or it has another form than its task's
abbrev pub Handled : List ℕ → Result (Option tasks.Task) Expected → Session → Told → Session → Type 0
Handled line (Ok None) s r t = Passed line s r t
Handled line (Ok (Some c)) s r t = (x : Done) × ((r ≡ said x) × Does c s x t)
Handled line (Err e) s r t = (r ≡ lacks e) × (t ≡ s)

-- the answer to a line, and the session behind it: a line of the table that is being read, or else the
-- command that the line asks
abbrev pub Answered : List ℕ → Session → Told → Session → Type 0
Answered line s r t =
    MatchOption s.loading (Handled line (task_asked (trimmed line)) s r t)
    (λ _. TableLine (trimmed line) s r t)
