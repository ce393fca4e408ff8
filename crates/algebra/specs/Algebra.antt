-- The algebra of SPARQL (W3C recommendation, 15 January 2008, section 12) over rows. A multiset of solutions
-- is a list of rows, of which only counts matter. Assumes nothing.
--     bgp m ts             the solutions of a basic graph pattern
--     compatible r s       the rows agree at every variable to which both give a value
--     merge r s            what either of them gives
--     join, diff, union, left_join    as the recommendation has them; its Filter is the library's filter
use Rattle.std.specs.Prelude.{ℕ, Bool, true, false, cond, not, ◌&&◌, ◌||◌, List, [], ◌∷◌, ◌++◌, map, ◌==◌}
use Rattle.std.specs.List.{filter, flat_map, list_all}
use Rattle.query.specs.declared.pattern.TriplePattern.{TriplePattern}
use Rattle.triples.specs.Meaning.{Meaning}
use Rattle.filter.specs.Rows.{Row, none}
use Rattle.algebra.specs.Patterns.{blank, stored, completions}

-- the solutions of a basic graph pattern: every assignment of its variables under which its triples are all
-- in the store, each once
abbrev pub bgp : Meaning → List TriplePattern → List Row
bgp m ts = filter (stored m ts) (completions m.top ts blank)

-- one of the two values is none, or they are the same
abbrev pub agree : ℕ → ℕ → Bool
agree x y = x == none || (y == none || x == y)

-- the rows agree at every variable to which both give a value
abbrev pub compatible : Row → Row → Bool
compatible [] [] = true
compatible [] (y ∷ s) = false
compatible (x ∷ r) [] = false
compatible (x ∷ r) (y ∷ s) = agree x y && compatible r s

-- the first value, or where it is none the second
abbrev pub either : ℕ → ℕ → ℕ
either x y = cond (x == none) y x

-- the row that gives each variable the value that one of the two gives it
abbrev pub merge : Row → Row → Row
merge [] s = s
merge (x ∷ r) [] = x ∷ r
merge (x ∷ r) (y ∷ s) = either x y ∷ merge r s

-- the merges of each row of the first with each compatible row of the second
abbrev pub join : List Row → List Row → List Row
join left right = flat_map (λ r. map (merge r) (filter (compatible r) right)) left

-- the rows of the first for which each row of the second is not compatible or its merge does not pass the
-- test; a filter that is an error is not passed
abbrev pub diff : (Row → Bool) → List Row → List Row → List Row
diff test left right =
    filter (λ r. list_all (λ s. not (compatible r s) || not (test (merge r s))) right) left

-- the elements of both; how often each is there adds up
abbrev pub union : {A : Type 0} → List A → List A → List A
union left right = left ++ right

-- the merges that pass the test, and besides them the rows of the first that have no such merge
abbrev pub left_join : (Row → Bool) → List Row → List Row → List Row
left_join test left right = union (filter test (join left right)) (diff test left right)
