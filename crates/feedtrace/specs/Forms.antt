-- The forms of tasks: what follows the word, and what is left behind it. Assumes nothing.
--     T P Q N S O A B C V0 .. V15     numbers from 0 to 4,294,967,295
use Rattle.std.specs.Prelude.{ℕ, Bool, true, false, cond, List, [], ◌∷◌, Some, None, Ok, Err}
use Rattle.std.specs.Prelude.{codes, Option, Result, ◌==◌}
use Rattle.std.specs.Str.{bytes_eq}
use Rattle.triples.specs.declared.triple.Triple.{Triple}
use Rattle.triples.specs.Order.{value_at}
use Rattle.triples.specs.Selectors.{any, selector_of}
use Rattle.console.specs.Words.{after_word, word}
use Rattle.filter.specs.Rows.{Row}
use Rattle.feedtrace.specs.declared.expected.Expected.{Expected}
use Rattle.feedtrace.specs.declared.expected.Expected.TheVariants as expected
use Rattle.feedtrace.specs.declared.part.Part.TheVariants.{Alternative, Block}
use Rattle.feedtrace.specs.declared.task.Task.{Task}
use Rattle.feedtrace.specs.declared.task.Task.TheVariants as task
use Rattle.feedtrace.specs.declared.verb.Verb.{Verb}
use Rattle.feedtrace.specs.declared.verb.Verb.TheVariants as verb
use Rattle.feedtrace.specs.Fields.{◌>>=◌, first_as, first_from, first_number, first_position}
use Rattle.feedtrace.specs.Fields.{first_row, first_triple, next_word, only}
use Rattle.feedtrace.specs.Verbs.{verb_of}

-- the catalogue that a word names
abbrev pub catalogue_of : List ℕ → Option Task
catalogue_of w =
    cond (bytes_eq w (codes "inline")) (Some task.InlineCatalogue)
    (cond (bytes_eq w (codes "listed")) (Some task.ListedCatalogue) None)

-- inline, or listed
abbrev pub catalogue_form : List ℕ → Option (Task × List ℕ)
catalogue_form = first_as catalogue_of

-- P Q
abbrev pub inverse_form : List ℕ → Option (Task × List ℕ)
inverse_form text = do
  p ← first_number text
  q ← first_number p.1
  Some (task.Inverse p.0 q.0, q.1)

-- A B C from S P O
abbrev pub seek_form : List ℕ → Option (Task × List ℕ)
seek_form text = do
  wanted ← first_triple text
  from ← first_from wanted.1
  start ← first_triple from.1
  Some (task.Seek (selector_of wanted.0) start.0, start.1)

-- a position, A B C from N, with 0 at the position
abbrev pub leap_form : List ℕ → Option (Task × List ℕ)
leap_form text = do
  place ← first_position text
  wanted ← first_triple place.1
  from ← first_from wanted.1
  bound ← first_number from.1
  cond (value_at place.0 wanted.0 == any)
      (Some (task.Leap place.0 (selector_of wanted.0) bound.0, bound.1)) None

-- B V0 .. V15, for the filter of a block of alternative a
abbrev pub block_form : ℕ → List ℕ → Option (Task × List ℕ)
block_form a text = do
  b ← first_number text
  values ← first_row b.1
  Some (task.Filter (Block a b.0) values.0, values.1)

-- text stands behind A, and begins with the row r; where nothing is left behind that, the filter is that of
-- the alternative, else that of a block
abbrev pub filter_behind : ℕ → List ℕ → Row → List ℕ → Option (Task × List ℕ)
filter_behind a text r [] = Some (task.Filter (Alternative a) r, [])
filter_behind a text r (c ∷ cs) = block_form a text

-- A V0 .. V15, or A B V0 .. V15
abbrev pub filter_form : List ℕ → Option (Task × List ℕ)
filter_form text = do
  a ← first_number text
  values ← first_row a.1
  filter_behind a.0 a.1 values.0 values.1

-- N, as the number of a task
abbrev pub number_form : (ℕ → Task) → List ℕ → Option (Task × List ℕ)
number_form make text = first_number text >>= (λ n. Some (make n.0, n.1))

-- S P O, as the triple of a task
abbrev pub triple_form : (Triple → Task) → List ℕ → Option (Task × List ℕ)
triple_form make text = first_triple text >>= (λ t. Some (make t.0, t.1))

-- the task of a word with what follows it, and what is left
abbrev pub task_fields : Verb → List ℕ → Option (Task × List ℕ)
task_fields verb.RowStore text = number_form task.RowStore text
task_fields verb.PropertyStore text = number_form task.PropertyStore text
task_fields verb.Catalogue text = catalogue_form text
task_fields verb.Inverse text = inverse_form text
task_fields verb.Withdrawn text = Some (task.Withdrawn, text)
task_fields verb.Withdraw text = triple_form task.Withdraw text
task_fields verb.Restore text = triple_form task.Restore text
task_fields verb.Seek text = seek_form text
task_fields verb.Leap text = leap_form text
task_fields verb.Lookup text = number_form task.Lookup text
task_fields verb.Scan text = triple_form (λ t. task.Scan (selector_of t)) text
task_fields verb.Trace text = number_form task.Trace text
task_fields verb.Filter text = filter_form text

-- the task of a word with what follows it, if nothing is left
abbrev pub task_form : Verb → List ℕ → Option Task
task_form v text = only (task_fields v text)

-- the word begins a table, with what follows it, be it well formed or not
abbrev pub begins_table : Verb → List ℕ → Bool
begins_table verb.RowStore rest = true
begins_table verb.PropertyStore rest = true
begins_table verb.Catalogue rest = bytes_eq (next_word rest) (codes "listed")
begins_table v rest = false

-- the task; where there is none, a table that is malformed, or the command's form where none begins
abbrev pub formed : Verb → List ℕ → Option Task → Result (Option Task) Expected
formed v rest None = cond (begins_table v rest) (Ok (Some (task.MalformedTable v))) (Err (expected.Form v))
formed v rest (Some c) = Ok (Some c)

-- what a first word with what follows it asks of tables, layers and questions: nothing, a task, a table that
-- is malformed, or the command's form
abbrev pub asked_by : Option Verb → List ℕ → Result (Option Task) Expected
asked_by None rest = Ok None
asked_by (Some v) rest = formed v rest (task_form v rest)

-- what a line without white space at its ends asks of tables, layers and questions
abbrev pub task_asked : List ℕ → Result (Option Task) Expected
task_asked text = asked_by (verb_of (word text)) (after_word text)
