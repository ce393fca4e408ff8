-- Which values a pruner admits, and the law that it must keep. Assumes nothing.
--     Admission             for a part's triples, a row and a variable: whether a value is worth a try
--     Completes top ts r s  s gives the variables of ts that r gives none a value, and is like r elsewhere
--     Lawful m admits       no value is left out that some completion in the store has
--     every_term, look_ahead   the two admissions that need nothing but the store
--     Matches r t u         u is a triple that the pattern t can become under the row r
use Rattle.std.specs.Prelude.{◌≡◌, ℕ, ◌<◌, ◌≤◌, Bool, true, false, ◌&&◌, ◌⊎◌, List, [], ◌∷◌, length, ◌≢◌}
use Rattle.std.specs.List.{list_all, list_any}
use Rattle.query.specs.declared.pattern.TriplePattern.{TriplePattern}
use Rattle.query.specs.declared.place.Place.{Place}
use Rattle.query.specs.Lawful.{mentions}
use Rattle.query.specs.Limits.{variables}
use Rattle.triples.specs.declared.triple.Triple.{Triple}
use Rattle.triples.specs.Meaning.{Meaning, Term, term}
use Rattle.filter.specs.Rows.{Row, none, value, number_at}
use Rattle.algebra.specs.Patterns.{with_value, stored, Stored, completions}

-- for a part's triples, a row, a variable and a value: whether the value is admitted
abbrev pub Admission : Type 0
Admission = List TriplePattern → Row → ℕ → ℕ → Bool

-- s gives a value from 1 to top to each of the sixteen variables that is in the patterns and to which r gives
-- none, and to no others
pub record Completes (top : ℕ) (ts : List TriplePattern) (r s : Row) : Type 0 where
  pub long : length s ≡ length r
  pub given : (v : ℕ) → v < variables → mentions v ts ≡ true → value r v ≡ none → Term top (value s v)
  pub kept : (v : ℕ) → (variables ≤ v) ⊎ ((mentions v ts ≡ false) ⊎ (value r v ≢ none))
      → value s v ≡ value r v

-- a term is admitted if the row with it has a completion under which all the part's triples are stored; and
-- nothing but terms from 1 to the top is
pub record Lawful (m : Meaning) (admits : Admission) : Type 0 where
  pub keeps : (ts : List TriplePattern) (r : Row) (v x : ℕ) (s : Row) → Term m.top x
      → Completes m.top ts (with_value r v x) s → Stored m ts s → admits ts r v x ≡ true
  pub only : (ts : List TriplePattern) (r : Row) (v x : ℕ) → admits ts r v x ≡ true → Term m.top x

-- every value from 1 to the top
abbrev pub every_term : Meaning → Admission
every_term m ts r v x = term m.top x

-- the pattern by itself matches some stored triple: some row that gives the variables to which r gives none a
-- value, one value to a variable, has it in the store
abbrev pub possible : Meaning → Row → TriplePattern → Bool
possible m r t = list_any (stored m (t ∷ [])) (completions m.top (t ∷ []) r)

-- a value from 1 to the top with which each of the part's triples, by itself, matches some stored triple; two
-- of them need not agree on a third variable
abbrev pub look_ahead : Meaning → Admission
look_ahead m ts r v x = term m.top x && list_all (possible m (with_value r v x)) ts

-- under the row the place has no number, or n
abbrev pub Allows : Row → Place → ℕ → Type 0
Allows r p n = (number_at r p ≡ none) ⊎ (number_at r p ≡ n)

-- the pattern can become the triple u under the row: each number of u is the one that the pattern has at that
-- place, if it has one, and places that are the same variable, or the same term, have the same number in u
pub record Matches (r : Row) (t : TriplePattern) (u : Triple) : Type 0 where
  pub subject : Allows r t.subject u.subject
  pub property : Allows r t.property u.property
  pub object : Allows r t.object u.object
  pub subject_property : t.subject ≡ t.property → u.subject ≡ u.property
  pub subject_object : t.subject ≡ t.object → u.subject ≡ u.object
  pub property_object : t.property ≡ t.object → u.property ≡ u.object
