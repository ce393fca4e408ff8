-- The line that an answer or a failure shows as, without the line's end. Assumes nothing.
use Rattle.std.specs.Prelude.{ℕ, List, [], ◌∷◌, ◌++◌, Some, None, vec_items, codes, decimal, Option}
use Rattle.hex_text.specs.Writing.{text_of}
use Rattle.query.specs.declared.inspect.Counts as inspect
use Rattle.query.specs.Texts.{counts_text}
use Rattle.refusal.specs.declared.rejection.Rejection.{Rejection}
use Rattle.refusal.specs.Texts.{rejection_text}
use Rattle.console.specs.declared.answer.Answer.{Answer}
use Rattle.console.specs.declared.answer.Answer.TheVariants.{Counts, Bytes, Shown}
use Rattle.console.specs.declared.expected.Expected.{Expected}
use Rattle.console.specs.declared.expected.Expected.TheVariants as expected
use Rattle.console.specs.declared.failure.Failure as failures
use Rattle.console.specs.declared.failure.Failure.TheVariants as failure
use Rattle.console.specs.Numerals.{most_length}

-- what ends a line
abbrev pub newline : ℕ
newline = 10

-- how much a query holds
abbrev pub counts_line : inspect.Counts → List ℕ
counts_line c = codes "query: " ++ counts_text c

-- bytes in hexadecimal
abbrev pub bytes_line : List ℕ → List ℕ
bytes_line bs = codes "bytes: " ++ text_of bs

-- the line of an answer; nothing for one that has none
abbrev pub answer_line : Answer → List ℕ
answer_line (Counts c) = counts_line c
answer_line (Bytes v) = bytes_line (vec_items v)
answer_line Shown = []

-- what is printed for an answer: its line; a listing is left open
abbrev pub reply_text : Answer → Option (List ℕ)
reply_text (Counts c) = Some (counts_line c ++ newline ∷ [])
reply_text (Bytes v) = Some (bytes_line (vec_items v) ++ newline ∷ [])
reply_text Shown = None

-- a refusal by its published number, and its place
abbrev pub refused_line : Rejection → List ℕ
refused_line r = codes "refused " ++ rejection_text r

-- what was expected
abbrev pub expected_text : Expected → List ℕ
expected_text expected.Command = codes "query, write or show"
expected_text expected.Bytes = codes "two hexadecimal digits for each byte, with spaces between"
expected_text expected.Length = codes "a length from 0 to " ++ decimal most_length
expected_text expected.LineEnd = codes "nothing behind the command"
expected_text expected.Query = codes "a current query"
expected_text expected.Memory = codes "more memory"

-- an error by what was expected
abbrev pub expected_line : Expected → List ℕ
expected_line e = codes "error: expected " ++ expected_text e

-- the line of a failure
abbrev pub failure_line : failures.Failure → List ℕ
failure_line (failure.Refused r) = refused_line r
failure_line (failure.Expected e) = expected_line e
