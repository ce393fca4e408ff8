-- What a line asks, and which command stands for it. Assumes nothing.
--     asked line    what the line asks
--     Meets m r     the result r is what m asks
use Rattle.std.specs.Prelude.{◌≡◌, ℕ, ◌⊎◌, List, [], ◌∷◌, Some, None, Ok, Err, vec_items, cond, codes}
use Rattle.std.specs.Prelude.{Option, Result}
use Rattle.std.specs.Str.{bytes_eq}
use Rattle.hex_text.specs.Reading.{read_text}
use Rattle.console.specs.declared.command.Command as commands
use Rattle.console.specs.declared.command.Command.TheVariants as command
use Rattle.console.specs.declared.expected.Expected.{Expected}
use Rattle.console.specs.declared.expected.Expected.TheVariants as expected
use Rattle.console.specs.Numerals.{most_length, number_from}
use Rattle.console.specs.Words.{absent, after_word, trimmed, unindented, word}

-- what a line can ask: nothing, a query by its bytes, its writing, its listing; or what was expected of it
pub data Request : Type 0 where
  nothing : Request
  query : List ℕ → Request
  write : ℕ → Request
  show : Request
  wrong : Expected → Request

-- a query of the bytes, if there are any
abbrev pub query_of : Option (List ℕ) → Request
query_of None = wrong expected.Bytes
query_of (Some bs) = query bs

-- the writing of a query at that length, if there is one
abbrev pub write_at : Option ℕ → Request
write_at None = wrong expected.Length
write_at (Some n) = write n

-- the listing of a query, if nothing follows
abbrev pub show_before : List ℕ → Request
show_before [] = show
show_before (c ∷ _) = wrong expected.LineEnd

-- what the word w with such a rest of the line asks; another word asks nothing that can be carried out
abbrev pub asked_by : List ℕ → List ℕ → Request
asked_by w rest =
    cond (bytes_eq w (codes "query")) (query_of (read_text rest))
    (cond (bytes_eq w (codes "write")) (write_at (number_from most_length (unindented rest)))
    (cond (bytes_eq w (codes "show")) (show_before rest) (wrong expected.Command)))

-- what a line without white space at its ends asks: nothing where it has no word, or is a remark
abbrev pub asked_plainly : List ℕ → Request
asked_plainly line = cond (absent (word line)) nothing (asked_by (word line) (after_word line))

-- what a line asks; white space at its ends does not matter
abbrev pub asked : List ℕ → Request
asked line = asked_plainly (trimmed line)

-- m asks nothing that can be carried out, since e is expected; or it asks a query, and memory is wanting
abbrev pub Fails : Request → Expected → Type 0
Fails m e = (m ≡ wrong e) ⊎ ((e ≡ expected.Memory) × ((bs : List ℕ) × (m ≡ query bs)))

-- the command is what m asks
abbrev pub Asks : Request → commands.Command → Type 0
Asks m (command.Query v) = m ≡ query (vec_items v)
Asks m (command.Write n) = m ≡ write n
Asks m command.Show = m ≡ show

-- the command is what m asks; or m fails
abbrev pub Obeys : Request → Result commands.Command Expected → Type 0
Obeys m (Ok c) = Asks m c
Obeys m (Err e) = Fails m e

-- the command is what m asks, or there is none since m asks nothing; or m fails
abbrev pub Meets : Request → Result (Option commands.Command) Expected → Type 0
Meets m (Ok None) = m ≡ nothing
Meets m (Ok (Some c)) = Asks m c
Meets m (Err e) = Fails m e
