-- What a task comes to: its outcome, or why there is none; and a failure's line. Assumes nothing.
use Rattle.std.specs.Prelude.{ℕ, List, ◌++◌, Err, Option, Result, codes}
use Rattle.refusal.specs.declared.rejection.Rejection.{Rejection}
use Rattle.console.specs.Answers.{refused_line}
use Rattle.console.specs.declared.expected.Expected.TheVariants as shared
use Rattle.console.specs.declared.failure.Failure as queries
use Rattle.console.specs.declared.failure.Failure.TheVariants as query
use Rattle.feedtrace.specs.declared.expected.Expected.{Expected}
use Rattle.feedtrace.specs.declared.expected.Expected.TheVariants as expected
use Rattle.feedtrace.specs.declared.failure.Failure.{Failure}
use Rattle.feedtrace.specs.declared.failure.Failure.TheVariants as failure
use Rattle.feedtrace.specs.declared.outcome.Outcome.{Outcome}
use Rattle.feedtrace.specs.Errors.{expected_text}

-- the outcome of a task, or why it is not carried out
abbrev pub Carried : Type 0
Carried = Result Outcome Failure

-- the outcome of a task, if it has one, or why it is not carried out
abbrev pub Done : Type 0
Done = Result (Option Outcome) Failure

-- more memory is expected
abbrev pub memory : Expected
memory = expected.Shared shared.Memory

-- what is expected is lacking
abbrev pub lacks : {A : Type 0} → Expected → Result A Failure
lacks x = Err (failure.Expected x)

-- the library refuses what is asked
abbrev pub refused : {A : Type 0} → Rejection → Result A Failure
refused r = Err (failure.Refused r)

-- the failure of a command about queries
abbrev pub failure_for : queries.Failure → Failure
failure_for (query.Refused r) = failure.Refused r
failure_for (query.Expected e) = failure.Expected (expected.Shared e)

-- the line of a failure: a refusal by its published number and its place, an error by what was expected
abbrev pub failure_line : Failure → List ℕ
failure_line (failure.Refused r) = refused_line r
failure_line (failure.Expected e) = codes "error: expected " ++ expected_text e
