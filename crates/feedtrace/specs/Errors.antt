-- The text of what was expected where a line could not be carried out. Assumes nothing.
use Rattle.std.specs.Prelude.{ℕ, List, ◌++◌, codes, decimal}
use Rattle.console.specs.Answers as console
use Rattle.console.specs.declared.expected.Expected as shared
use Rattle.console.specs.declared.expected.Expected.TheVariants as shared_case
use Rattle.feedtrace.specs.declared.expected.Expected.{Expected}
use Rattle.feedtrace.specs.declared.expected.Expected.TheVariants as expected
use Rattle.feedtrace.specs.Commands.{form_text}

-- a command, by all the words that begin one
abbrev pub commands_text : List ℕ
commands_text =
    codes "a command: row-store, property-store, catalogue, inverse, withdrawn, withdraw, restore, "
    ++ codes "seek, leap, lookup, scan, trace, filter, query, write or show"

-- what commands about queries expect too; this program knows more commands
abbrev pub shared_text : shared.Expected → List ℕ
shared_text shared_case.Command = commands_text
shared_text e = console.expected_text e

-- a form, in line n of the table
abbrev pub line_text : List ℕ → ℕ → List ℕ
line_text form n = form ++ (codes " in line " ++ (decimal n ++ codes " of the table"))

-- what was expected
abbrev pub expected_text : Expected → List ℕ
expected_text (expected.Shared e) = shared_text e
expected_text (expected.Form v) = form_text v
expected_text expected.Store = codes "a current store"
expected_text expected.BareTable = codes "a store without layers"
expected_text expected.NoWithdrawnLayer = codes "a store without a withdrawn layer"
expected_text expected.WithdrawnLayer = codes "a withdrawn layer on top"
expected_text expected.Alternative = codes "an alternative of the current query"
expected_text expected.Block = codes "a block of the current query"
expected_text (expected.RowLine n) = line_text (codes "S P O") n
expected_text (expected.EntryLine n) = line_text (codes "property P FIRST, or pair S O,") n
expected_text (expected.RecordLine n) = line_text (codes "KIND VALUE") n
expected_text expected.End = codes "end"
