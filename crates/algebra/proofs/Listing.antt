-- The rows that the walk of an alternative answers, as plain lists: no marks, and nothing of what a pruner
-- admits. What is proved of the walk and of the algebra meets here. Assumes nothing.
--     fitting m test ts r     the completions of r that a part fits
--     extended m e bs r       the rows that the blocks make of r, in the order of the walk
--     rows_of m e g           the rows that the walk of the alternative g answers
--     answers_of m e q        the answers of the walk of q
use Rattle.std.proofs.Common.{ℕ, ◌+◌, Bool, List, [], ◌∷◌, ◌++◌}
use Rattle.std.specs.List.{filter, flat_map}
use Rattle.catalogue.specs.Entries.{Entry}
use Rattle.query.specs.declared.pattern.TriplePattern.{TriplePattern}
use Rattle.query.specs.Parts.{Part, Group}
use Rattle.triples.specs.Meaning.{Meaning}
use Rattle.filter.specs.Rows.{Row}
use Rattle.filter.specs.Filters.{passes}
use Rattle.algebra.specs.Patterns.{blank, stored, completions}
use Rattle.algebra.specs.Answers.{Answer, numbered}

-- the completions of the row that have the patterns in the store and pass the test
abbrev pub fitting : Meaning → (Row → Bool) → List TriplePattern → Row → List Row
fitting m test ts r = filter test (filter (stored m ts) (completions m.top ts r))

-- the rows, or where there are none the row itself
abbrev pub or_itself : Row → List Row → List Row
or_itself r [] = r ∷ []
or_itself r (s ∷ rows) = s ∷ rows

-- what the blocks make of the row, one after the other
abbrev pub extended : Meaning → (ℕ → Entry) → List Part → Row → List Row
extended m e [] r = r ∷ []
extended m e (b ∷ bs) r =
    flat_map (extended m e bs) (or_itself r (fitting m (passes e b.filter) b.triples r))

-- the rows that the alternative's blocks make of those of its required triples, and that pass its filter
abbrev pub rows_of : Meaning → (ℕ → Entry) → Group → List Row
rows_of m e g =
    filter (passes e g.filter)
    (flat_map (extended m e g.blocks) (filter (stored m g.required) (completions m.top g.required blank)))

-- the rows of the alternatives, of which the first has the number a
abbrev pub answers_of_from : Meaning → (ℕ → Entry) → ℕ → List Group → List Answer
answers_of_from m e a [] = []
answers_of_from m e a (g ∷ gs) = numbered a (rows_of m e g) ++ answers_of_from m e (a + 1) gs

-- the rows of all alternatives, each with its number
abbrev pub answers_of : Meaning → (ℕ → Entry) → List Group → List Answer
answers_of m e q = answers_of_from m e 0 q
