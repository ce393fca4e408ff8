-- What the answers of a query are. Assumes nothing.
--     Answer                 the number of an alternative, from 0, and a row
--     solutions m e g        the solutions of the alternative g over the store m, under the entries e
--     answers_to m e q       the answers of the query q
use Rattle.std.specs.Prelude.{ℕ, ◌+◌, Bool, ◌&&◌, List, [], ◌∷◌, map, ◌==◌}
use Rattle.std.specs.List.{filter, count_by}
use Rattle.std.specs.Str.{bytes_eq}
use Rattle.catalogue.specs.Entries.{Entry}
use Rattle.query.specs.Parts.{Part, Group}
use Rattle.triples.specs.Meaning.{Meaning}
use Rattle.filter.specs.Rows.{Row}
use Rattle.filter.specs.Filters.{passes}
use Rattle.algebra.specs.Algebra.{bgp, union, left_join}

-- left joins with the blocks, one after the other; a block's filter is the condition of its join
abbrev pub left_joins : Meaning → (ℕ → Entry) → List Row → List Part → List Row
left_joins m e rows [] = rows
left_joins m e rows (b ∷ bs) =
    left_joins m e (left_join (passes e b.filter) rows (bgp m b.triples)) bs

-- the solutions of an alternative: of its required triples, left-joined with its blocks, those that pass its
-- group filter
abbrev pub solutions : Meaning → (ℕ → Entry) → Group → List Row
solutions m e g = filter (passes e g.filter) (left_joins m e (bgp m g.required) g.blocks)

-- an alternative by its number, and a row
pub record Answer : Type 0 where
  pub alternative : ℕ
  pub row : Row

-- the rows as answers of alternative a
abbrev pub numbered : ℕ → List Row → List Answer
numbered a rows = map (λ r. record { alternative = a; row = r }) rows

-- the answers of the alternatives, of which the first has the number a
abbrev pub answers_from : Meaning → (ℕ → Entry) → ℕ → List Group → List Answer
answers_from m e a [] = []
answers_from m e a (g ∷ gs) = union (numbered a (solutions m e g)) (answers_from m e (a + 1) gs)

-- the answers of a query: those of all its alternatives
abbrev pub answers_to : Meaning → (ℕ → Entry) → List Group → List Answer
answers_to m e q = answers_from m e 0 q

-- the two rows are the same, by the library's test for lists of numbers
abbrev pub same_row : Row → Row → Bool
same_row r s = bytes_eq r s

-- the two answers are the same
abbrev pub same_answer : Answer → Answer → Bool
same_answer a b = a.alternative == b.alternative && same_row a.row b.row

-- how often the row is among the rows
abbrev pub times : Row → List Row → ℕ
times r rows = count_by (same_row r) rows

-- how often the answer is among the answers
abbrev pub times_answered : Answer → List Answer → ℕ
times_answered a answers = count_by (same_answer a) answers
