-- The line asks the task that is carried out; or it is answered as one about queries, which it is without the
-- white space at its ends too.
use Rattle.std.proofs.Common.{rules, ◌≡◌, ℕ, List, false, is_some, Ok, Some, None, Option, Result, sym, ap}
use Rattle.std.proofs.Common.{◌∙◌, subst, MatchOption}
use Rattle.console.specs.declared.answer.Answer as answers
use Rattle.console.specs.declared.failure.Failure as failures
use Rattle.console.specs.declared.session.Session as sessions
use Rattle.console.specs.Requests.{Meets, asked_plainly}
use Rattle.console.specs.Sessions as console
use Rattle.feedtrace.specs.declared.expected.Expected.{Expected}
use Rattle.feedtrace.specs.declared.task.Task.{Task}
use Rattle.feedtrace.specs.Forms.{task_asked}
use Rattle.feedtrace.specs.Lines.{TableLine}
use Rattle.console.specs.Words.{trimmed}
use Rattle.console.proofs.Words.{trimmed-trimmed}
use Rattle.feedtrace.proofs.session.Session.answer.Goals as goal

-- what was asked, if anything was
abbrev found : Option Task → Result (Option Task) Expected
found m = Ok m

-- what holds where there is no value
MatchOption-at_no : {A : Type 0} (o : Option A) {P : Type 0} (Q : A → Type 0) → false ≡ is_some o → P
    → MatchOption o P Q
MatchOption-at_no None Q none p = p
MatchOption-at_no (Some x) Q none p = cc

pub returns-in_ok-carry_out-in-Some : goal.returns-in_ok-carry_out-in-Some
returns-in_ok-carry_out-in-Some c =
    let line = c.args.line.now in
    let outcome = c.in_ok-carry_out-in-Some.field-0 in
    let asks : task_asked (trimmed line) ≡ Ok (Some c.in-Some.task) =
    ap task_asked (sym c.trim-text.ensures) ∙ sym c.parse.ensures.said ∙ c.in_ok-task.was
    ∙ ap found c.in-Some.is in
    MatchOption-at_no c.args.self.now.loading
    (λ _. TableLine (trimmed line) c.args.self.now _ c.carry_out.new.self)
    c.if-is_some.ensures
    (rw asks (Ok outcome, (search rules, c.in_ok-carry_out-in-Some.ensures)))

-- an answer to the line without the white space at its ends is one to the line
Answered-from_trimmed : (line text : List ℕ) → text ≡ trimmed line → (s t : sessions.Session)
    (r : Result (Option answers.Answer) failures.Failure) → console.Answered text s r t
    → console.Answered line s r t
Answered-from_trimmed line text is s t r (m, (meets, handled)) =
    (m, (subst (λ l. Meets (asked_plainly l) m) (ap trimmed is ∙ trimmed-trimmed line) meets, handled))

pub returns-in_err-answer-in-None : goal.returns-in_err-answer-in-None
returns-in_err-answer-in-None c =
    search (rules, Answered-from_trimmed c.args.line.now _ c.trim-text.ensures _ _ _ c.answer.ensures)

pub returns-in_ok-answer-in-None : goal.returns-in_ok-answer-in-None
returns-in_ok-answer-in-None c =
    search (rules, Answered-from_trimmed c.args.line.now _ c.trim-text.ensures _ _ _ c.answer.ensures)
