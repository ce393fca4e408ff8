-- A table while its lines come in. Assumes nothing.
--     drafted d text     the draft d with the element of the line text behind its list
use Rattle.std.specs.Prelude.{◌≡◌, ℕ, ◌+◌, ◌%◌, min, ◌⊎◌, ◌&&◌, List, [], ◌∷◌, ◌++◌, Some, None, Ok, Err}
use Rattle.std.specs.Prelude.{vec_items, codes, Option, Result, MatchBool, MatchResult, cond, nat_lt, ◌==◌}
use Rattle.std.specs.Str.{bytes_eq}
use Rattle.triples.specs.declared.entry.DirectoryEntry.{DirectoryEntry}
use Rattle.triples.specs.declared.pair.Pair.{Pair}
use Rattle.triples.specs.declared.property_store.PropertyTable.{PropertyTable}
use Rattle.triples.specs.declared.triple.Triple.{Triple}
use Rattle.catalogue.specs.declared.record.Record.{Record}
use Rattle.console.specs.Words.{absent, word}
use Rattle.feedtrace.specs.declared.expected.Expected.{Expected}
use Rattle.feedtrace.specs.declared.expected.Expected.TheVariants as expected
use Rattle.feedtrace.specs.declared.loading.Loading.{Loading}
use Rattle.feedtrace.specs.declared.loading.Lists.{Lists}
use Rattle.feedtrace.specs.declared.loading.Lists.TheVariants.{Rows, Properties, Records}
use Rattle.feedtrace.specs.Failures.{memory}
use Rattle.feedtrace.specs.Fields.{◌>>=◌, behind_word, next_word}
use Rattle.feedtrace.specs.TableLines.{entry_line, pair_line, record_line, row_line}

-- the lists of a table so far
pub data Draft : Type 0 where
  rows : ℕ → List Triple → Draft
  properties : ℕ → List DirectoryEntry → List Pair → Draft
  records : List Record → Draft

-- the lists, as plain ones
abbrev pub draft_of : Lists → Draft
draft_of (Rows top v) = rows top (vec_items v)
draft_of (Properties top t) = properties top (vec_items t.directory) (vec_items t.pairs)
draft_of (Records v) = records (vec_items v)

-- the element behind the list, if there is an element
abbrev pub added : {A : Type 0} → List A → (List A → Draft) → Option A → Option Draft
added xs make m = m >>= (λ x. Some (make (xs ++ x ∷ [])))

-- the draft with the element of a line whose first word is property or pair; none for another word
abbrev pub entry_drafted : ℕ → List DirectoryEntry → List Pair → List ℕ → List ℕ → Option Draft
entry_drafted top ds ps w rest =
    cond (bytes_eq w (codes "property")) (added ds (λ es. properties top es ps) (entry_line rest))
    (cond (bytes_eq w (codes "pair")) (added ps (properties top ds) (pair_line rest)) None)

-- the draft with the element of the line behind its list; none where the line has another form
abbrev pub drafted : Draft → List ℕ → Option Draft
drafted (rows top xs) text = added xs (rows top) (row_line text)
drafted (properties top ds ps) text = entry_drafted top ds ps (next_word text) (behind_word text)
drafted (records rs) text = added rs records (record_line text)

-- what is expected of line n of the table
abbrev pub line_expected : Draft → ℕ → Expected
line_expected (rows top xs) n = expected.RowLine n
line_expected (properties top ds ps) n = expected.EntryLine n
line_expected (records rs) n = expected.RecordLine n

-- the line was not taken, since x is expected: it has another form and `wanted` is, or memory is wanting
abbrev pub Untaken : Expected → Draft → List ℕ → Expected → Type 0
Untaken wanted d text x =
    ((x ≡ wanted) × (drafted d text ≡ None))
    ⊎ ((x ≡ memory) × ((f : Draft) × (drafted d text ≡ Some f)))

-- the line was taken; or it was not, and the draft is as it was
abbrev pub Drafted : {U : Type 0} → Expected → Draft → List ℕ → Result U Expected → Draft → Type 0
Drafted wanted d text r e =
    MatchResult r (λ _. drafted d text ≡ Some e) (λ x. (e ≡ d) × Untaken wanted d text x)

-- the same of a property store's table
abbrev pub EntryTaken : {U : Type 0} → Expected → List ℕ → PropertyTable → Result U Expected → PropertyTable
    → Type 0
EntryTaken wanted text a r b =
    (top : ℕ) → Drafted wanted (properties top (vec_items a.directory) (vec_items a.pairs)) text r
    (properties top (vec_items b.directory) (vec_items b.pairs))

-- a table that is being read: how many lines stand behind its command, and what is to be loaded, or what was
-- expected where its command or a line was wrong
pub record Pending : Type 0 where
  pub lines : ℕ
  pub draft : Result Draft Expected

-- the lists, if nothing was wrong, as plain ones
abbrev pub draft_or : Result Lists Expected → Result Draft Expected
draft_or (Ok lists) = Ok (draft_of lists)
draft_or (Err x) = Err x

-- the table that is being read, by its plain lists
abbrev pub pending_of : Loading → Pending
pending_of l = record { lines = l.lines; draft = draft_or l.lists }

-- the most lines that are counted
abbrev pub most_lines : ℕ
most_lines = 18446744073709551615

-- n and one more line
abbrev pub counted : ℕ → ℕ
counted n = min (n + 1) most_lines

-- line n was taken into the draft; or it was not, and what was expected is remembered
abbrev pub LineTried : ℕ → Draft → List ℕ → Result Draft Expected → Type 0
LineTried n d text q =
    MatchResult q (λ e. drafted d text ≡ Some e) (Untaken (line_expected d n) d text)

-- a line was read and counted: a blank line or a remark is passed over, and after a wrong line no more is
-- taken; else the line is taken, or it is the wrong one
pub record LineRead (p : Pending) (text : List ℕ) (q : Pending) : Type 0 where
  pub lines : q.lines ≡ counted p.lines
  pub draft : MatchBool (absent (word text)) (q.draft ≡ p.draft)
      (MatchResult p.draft (λ d. LineTried q.lines d text q.draft) (λ _. q.draft ≡ p.draft))

-- how many lines there are between two remarks on how far a table is read
abbrev pub remark_every : ℕ
remark_every = 100000

-- how many lines of the table are read, at each hundred thousandth; none elsewhere
abbrev pub lines_remarked : ℕ → Option ℕ
lines_remarked n = cond (nat_lt 0 n && n % remark_every == 0) (Some n) None

-- the same, if a table is being read
abbrev pub progress_of : Option Pending → Option ℕ
progress_of p = p >>= (λ q. lines_remarked q.lines)
