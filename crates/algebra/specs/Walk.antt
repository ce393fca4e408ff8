-- The walk: what is tried and answered, mark by mark. Assumes nothing.
--     Mark A                 a variable is tried with a value, or an answer is reached
--     answers ms             the answers among the marks
--     walk m e admits q      the walk of the query q over the store m, under the entries e
use Rattle.std.specs.Prelude.{ℕ, ◌+◌, Bool, true, cond, ◌&&◌, List, [], ◌∷◌, ◌++◌}
use Rattle.std.specs.List.{filter, flat_map}
use Rattle.catalogue.specs.Entries.{Entry}
use Rattle.query.specs.declared.pattern.TriplePattern.{TriplePattern}
use Rattle.query.specs.Parts.{Part, Group}
use Rattle.triples.specs.Meaning.{Meaning}
use Rattle.filter.specs.Rows.{Row}
use Rattle.filter.specs.Filters.{passes}
use Rattle.algebra.specs.Patterns.{blank, with_value, stored, open_variables, terms}
use Rattle.algebra.specs.Answers.{Answer}
use Rattle.algebra.specs.Admissions.{Admission}

-- a try of a value for a variable, or an answer; the answers of a part's walk are the rows that fit it, and
-- those of a query's walk its answers
pub data Mark (A : Type 0) : Type 0 where
  try : ℕ → ℕ → Mark A
  answer : A → Mark A

-- the answers among the marks, in order
abbrev pub answers : {A : Type 0} → List (Mark A) → List A
answers [] = []
answers (try v x ∷ ms) = answers ms
answers (answer a ∷ ms) = a ∷ answers ms

-- the marks, where each answer gives way to the walk that goes on from it
abbrev pub follow : {A B : Type 0} → (A → List (Mark B)) → List (Mark A) → List (Mark B)
follow on [] = []
follow on (try v x ∷ ms) = try v x ∷ follow on ms
follow on (answer a ∷ ms) = on a ++ follow on ms

-- the answer, if it passes the test
abbrev pub answer_if : {A : Type 0} → Bool → A → List (Mark A)
answer_if test a = cond test (answer a ∷ []) []

-- the terms that are admitted for the variable, ascending
abbrev pub admitted : Meaning → Admission → List TriplePattern → Row → ℕ → List ℕ
admitted m admits ts r v = filter (admits ts r v) (terms m.top)

-- the walk of a part through the variables given: for each value that is admitted for the first, ascending,
-- a try of it, and what the walk through the others makes of the row with it; after the last variable, the
-- row is an answer if it fits
abbrev pub walk_through : Meaning → Admission → List TriplePattern → (Row → Bool) → List ℕ → Row
    → List (Mark Row)
walk_through m admits ts fits [] r = answer_if (fits r) r
walk_through m admits ts fits (v ∷ vs) r =
    flat_map (λ x. try v x ∷ walk_through m admits ts fits vs (with_value r v x)) (admitted m admits ts r v)

-- the walk of a part from a row: through the variables without a value, the lowest first; a row fits if the
-- part's triples are all in the store and it passes the test
abbrev pub walk_part : Meaning → Admission → (Row → Bool) → List TriplePattern → Row → List (Mark Row)
walk_part m admits test ts r =
    walk_through m admits ts (λ s. stored m ts s && test s) (open_variables ts r) r

-- the row itself, where nothing fitted
abbrev pub otherwise : Row → List Row → List (Mark Row)
otherwise r [] = answer r ∷ []
otherwise r (s ∷ fits) = []

-- the marks, and after them, if no answer is among them, the row itself
abbrev pub or_unextended : Row → List (Mark Row) → List (Mark Row)
or_unextended r ms = ms ++ otherwise r (answers ms)

-- the walk of a block from a row; if the block never fits, the row goes on as it is
abbrev pub walk_block : Meaning → (ℕ → Entry) → Admission → Part → Row → List (Mark Row)
walk_block m e admits b r = or_unextended r (walk_part m admits (passes e b.filter) b.triples r)

-- the walk of the blocks left, and after the last of them an answer if the row passes the group filter
abbrev pub walk_blocks : Meaning → (ℕ → Entry) → Admission → Group → List Part → Row → List (Mark Row)
walk_blocks m e admits g [] r = answer_if (passes e g.filter r) r
walk_blocks m e admits g (b ∷ bs) r =
    follow (walk_blocks m e admits g bs) (walk_block m e admits b r)

-- the walk of an alternative: of its required triples from the row without values, then of its blocks
abbrev pub walk_group : Meaning → (ℕ → Entry) → Admission → Group → List (Mark Row)
walk_group m e admits g =
    follow (walk_blocks m e admits g g.blocks) (walk_part m admits (λ _. true) g.required blank)

-- the walk of the alternatives, of which the first has the number a, one after the other
abbrev pub walk_from : Meaning → (ℕ → Entry) → Admission → ℕ → List Group → List (Mark Answer)
walk_from m e admits a [] = []
walk_from m e admits a (g ∷ gs) =
    follow (λ r. answer (record { alternative = a; row = r }) ∷ []) (walk_group m e admits g)
    ++ walk_from m e admits (a + 1) gs

-- the walk of a query
abbrev pub walk : Meaning → (ℕ → Entry) → Admission → List Group → List (Mark Answer)
walk m e admits q = walk_from m e admits 0 q
