-- What a session's step answers, and what is current behind it. Assumes nothing.
--     current s         the current query, by its alternatives; none where there is none
--     Steps s c r t     from the session s, the command c is answered by r and leaves the session t
--     Answered l s r t  from the session s, the line l is answered by r and leaves the session t
use Rattle.std.specs.Prelude.{◌≡◌, ℕ, ◌<◌, ◌≤◌, ◌⊎◌, List, length, Some, None, Ok, Err, vec_items, Option}
use Rattle.std.specs.Prelude.{Result}
use Rattle.std.specs.Option.{option_map}
use Rattle.refusal.specs.declared.refusal.Refusal.TheVariants.{BufferShort}
use Rattle.query.specs.Format.{bytes_of}
use Rattle.query.specs.Grammar.{accepted, rejected, verdict}
use Rattle.query.specs.Parts.{Group}
use Rattle.query.specs.Shape.{shape, counts_of}
use Rattle.console.specs.declared.answer.Answer.{Answer}
use Rattle.console.specs.declared.answer.Answer.TheVariants.{Counts, Bytes, Shown}
use Rattle.console.specs.declared.command.Command.{Command}
use Rattle.console.specs.declared.command.Command.TheVariants as command
use Rattle.console.specs.declared.expected.Expected as expectations
use Rattle.console.specs.declared.expected.Expected.TheVariants as expected
use Rattle.console.specs.declared.failure.Failure.{Failure}
use Rattle.console.specs.declared.failure.Failure.TheVariants.{Refused, Expected}
use Rattle.console.specs.declared.session.Session.{Session}
use Rattle.console.specs.Requests.{asked, Meets}

-- the current query, by its alternatives
abbrev pub current : Session → Option (List Group)
current s = option_map shape s.query

-- these bytes were asked to be read: they are a query, which is counted and current now; or they are
-- refused, or there is no memory for it, and then the session is as it was
abbrev pub Took : List ℕ → Session → Result Answer Failure → Session → Type 0
Took bytes s (Ok (Counts c)) t =
    (q : List Group) × ((verdict bytes ≡ accepted q) × ((c ≡ counts_of q) × (current t ≡ Some q)))
Took bytes s (Ok (Bytes v)) t = ⊥
Took bytes s (Ok Shown) t = ⊥
Took bytes s (Err (Refused e)) t = (verdict bytes ≡ rejected e.refusal e.place) × (t ≡ s)
Took bytes s (Err (Expected e)) t =
    (e ≡ expected.Memory) × (((q : List Group) × (verdict bytes ≡ accepted q)) × (t ≡ s))

-- the current query was asked to be written into a buffer of n bytes: its bytes; or the refusal of a short
-- buffer; or there is no current query, or no memory for the buffer
abbrev pub Wrote : ℕ → Session → Result Answer Failure → Type 0
Wrote n s (Ok (Counts c)) = ⊥
Wrote n s (Ok (Bytes v)) =
    (q : List Group) × ((current s ≡ Some q) × ((length (bytes_of q) ≤ n) × (vec_items v ≡ bytes_of q)))
Wrote n s (Ok Shown) = ⊥
Wrote n s (Err (Refused e)) =
    (q : List Group) × ((current s ≡ Some q)
    × ((n < length (bytes_of q)) × (e ≡ record { refusal = BufferShort; place = 0 })))
Wrote n s (Err (Expected e)) =
    ((e ≡ expected.Query) × (current s ≡ None))
    ⊎ ((e ≡ expected.Memory) × ((q : List Group) × (current s ≡ Some q)))

-- the current query was asked to be shown: there is one, or there is none
abbrev pub Showed : Session → Result Answer Failure → Type 0
Showed s (Ok (Counts c)) = ⊥
Showed s (Ok (Bytes v)) = ⊥
Showed s (Ok Shown) = (q : List Group) × (current s ≡ Some q)
Showed s (Err (Refused e)) = ⊥
Showed s (Err (Expected e)) = (e ≡ expected.Query) × (current s ≡ None)

-- the answer to a command, and the session behind it
abbrev pub Steps : Session → Command → Result Answer Failure → Session → Type 0
Steps s (command.Query v) r t = Took (vec_items v) s r t
Steps s (command.Write n) r t = Wrote n s r × (t ≡ s)
Steps s command.Show r t = Showed s r × (t ≡ s)

-- the answer, as one to a line that asks something
abbrev pub asked_for : Result Answer Failure → Result (Option Answer) Failure
asked_for (Ok a) = Ok (Some a)
asked_for (Err e) = Err e

-- the answer to what was read from a line, and the session behind it
abbrev pub Handled : Session → Result (Option Command) expectations.Expected → Result (Option Answer) Failure
    → Session → Type 0
Handled s (Ok None) r t = (r ≡ Ok None) × (t ≡ s)
Handled s (Ok (Some c)) r t = (a : Result Answer Failure) × ((r ≡ asked_for a) × Steps s c a t)
Handled s (Err e) r t = (r ≡ Err (Expected e)) × (t ≡ s)

-- the answer to a line, and the session behind it: the command that the line asks is carried out
abbrev pub Answered : List ℕ → Session → Result (Option Answer) Failure → Session → Type 0
Answered line s r t =
    (m : Result (Option Command) expectations.Expected) × (Meets (asked line) m × Handled s m r t)
