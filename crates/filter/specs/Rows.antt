-- Rows: a value for each of the sixteen variables. Assumes nothing.
--     Row            the values in the order of the variables; 0 where a variable has none
--     value r v      the value of variable v; 0 where it has none, and for a variable over 15
use Rattle.std.specs.Prelude.{ℕ, Bool, not, List, ◌==◌, slice_index_or}
use Rattle.query.specs.declared.place.Place.{Place}
use Rattle.query.specs.declared.place.Place.TheVariants.{Variable, Term}

-- the values of the variables, in order
abbrev pub Row : Type 0
Row = List ℕ

-- the number that stands for no value
abbrev pub none : ℕ
none = 0

-- the value of variable v
abbrev pub value : Row → ℕ → ℕ
value r v = slice_index_or r v none

-- variable v has a value
abbrev pub has_value : Row → ℕ → Bool
has_value r v = not (value r v == none)

-- what stands at the place under the row: a variable's value, or the term
abbrev pub number_at : Row → Place → ℕ
number_at r (Variable v) = value r v
number_at r (Term t) = t
