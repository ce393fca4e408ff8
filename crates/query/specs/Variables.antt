-- Which variables a set holds. Assumes nothing.
use Rattle.std.specs.Prelude.{◌≡◌, ℕ, ◌<◌, Bool, false, not, ◌||◌, List, slice_index_or}
use Rattle.query.specs.declared.pattern.TriplePattern.{TriplePattern}
use Rattle.query.specs.declared.variables.VariableSet.{VariableSet}
use Rattle.query.specs.Limits.{variables}
use Rattle.query.specs.Parts.{Part}
use Rattle.query.specs.Lawful.{mentions}

-- v is a member of the set
abbrev pub member : ℕ → VariableSet → Bool
member v s = slice_index_or s.members v false

-- the variable v is in the triples of the block
abbrev pub mentioned : ℕ → Part → Bool
mentioned v b = mentions v b.triples

-- the set holds exactly the variables of the triples
abbrev pub Gathers : VariableSet → List TriplePattern → Type 0
Gathers s ts = (v : ℕ) → v < variables → member v s ≡ mentions v ts

-- if v is a member of the first set, it is one of the other too
abbrev pub kept_in : VariableSet → VariableSet → ℕ → Bool
kept_in s t v = not (member v s) || member v t
