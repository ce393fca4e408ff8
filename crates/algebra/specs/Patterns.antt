-- Triple patterns under a row. Assumes nothing.
--     Valid top r             r has sixteen values, each at most top
--     stored m ts r           the triples of ts under r are all in the store
--     Stored m ts r           the same, triple by triple
--     open_variables ts r     the variables of ts that have no value in r, ascending
--     completions top ts r    every row that gives them values from 1 to top, and keeps the rest of r
use Rattle.std.specs.Prelude.{◌≡◌, ℕ, ◌≤◌, length, Bool, true, not, ◌&&◌, List, [], ◌∷◌, replicate}
use Rattle.std.specs.Prelude.{slice_set}
use Rattle.std.specs.List.{filter, flat_map, list_all, range_with_len, AllByRecursion}
use Rattle.query.specs.declared.pattern.TriplePattern.{TriplePattern}
use Rattle.query.specs.Lawful.{mentions}
use Rattle.query.specs.Limits.{variables}
use Rattle.triples.specs.declared.triple.Triple.{Triple}
use Rattle.triples.specs.Meaning.{Meaning, first_term}
use Rattle.filter.specs.Rows.{Row, none, value, has_value, number_at}

-- no variable has a value
abbrev pub blank : Row
blank = replicate variables none

-- the row has sixteen values, each of them at most top; where it has none, the value is 0
pub record Valid (top : ℕ) (r : Row) : Type 0 where
  pub long : length r ≡ variables
  pub small : (v : ℕ) → value r v ≤ top

-- the row with x as the value of variable v; a variable over 15 leaves it as it is
abbrev pub with_value : Row → ℕ → ℕ → Row
with_value r v x = slice_set r v x

-- the triple that the pattern is under the row
abbrev pub triple_under : Row → TriplePattern → Triple
triple_under r t = record {
  subject = number_at r t.subject;
  property = number_at r t.property;
  object = number_at r t.object;
}

-- each pattern is under the row a triple of the store
abbrev pub stored : Meaning → List TriplePattern → Row → Bool
stored m ts r = list_all (λ t. m.has (triple_under r t)) ts

-- the store has, for each pattern, the triple that it is under the row
abbrev pub Stored : Meaning → List TriplePattern → Row → Type 0
Stored m ts r = AllByRecursion (λ t. m.has (triple_under r t) ≡ true) ts

-- all variables, ascending
abbrev pub all_variables : List ℕ
all_variables = range_with_len 0 variables

-- the variables of the patterns that have no value in the row, ascending
abbrev pub open_variables : List TriplePattern → Row → List ℕ
open_variables ts r = filter (λ v. mentions v ts && not (has_value r v)) all_variables

-- the terms from 1 to top, ascending
abbrev pub terms : ℕ → List ℕ
terms top = range_with_len first_term top

-- every row that gives each of the variables a value from 1 to top and is like r elsewhere, each once
abbrev pub assignments : ℕ → List ℕ → Row → List Row
assignments top [] r = r ∷ []
assignments top (v ∷ vs) r = flat_map (λ x. assignments top vs (with_value r v x)) (terms top)

-- every row that gives the variables of the patterns that r gives none a value, and is like r elsewhere
abbrev pub completions : ℕ → List TriplePattern → Row → List Row
completions top ts r = assignments top (open_variables ts r) r
