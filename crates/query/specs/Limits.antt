-- The limits of a query. Assumes nothing.
--     within low high n     n is from low to high
--     lawful_place p        the place is a variable 0 to 15 or a term 1 to 1,000,000
use Rattle.std.specs.Prelude.{ℕ, ◌+◌, Bool, ◌&&◌, nat_le}
use Rattle.query.specs.declared.place.Place.{Place}
use Rattle.query.specs.declared.place.Place.TheVariants.{Variable, Term}

-- the most alternatives of a query
abbrev pub most_alternatives : ℕ
most_alternatives = 8

-- the most blocks of an alternative
abbrev pub most_blocks : ℕ
most_blocks = 4

-- the most triples of one part, and the most nodes of one filter
abbrev pub most_in_part : ℕ
most_in_part = 16

-- the most triples, and apart from them the most filter nodes, of a whole query
abbrev pub most_in_all : ℕ
most_in_all = 64

-- the highest number of a variable
abbrev pub most_variable : ℕ
most_variable = 15

-- how many variables there are
abbrev pub variables : ℕ
variables = most_variable + 1

-- the highest number of a term in a query
abbrev pub most_term : ℕ
most_term = 1000000

-- n is from low to high
abbrev pub within : ℕ → ℕ → ℕ → Bool
within low high n = nat_le low n && nat_le n high

-- the place is a variable or a term that a query may hold
abbrev pub lawful_place : Place → Bool
lawful_place (Variable v) = within 0 most_variable v
lawful_place (Term t) = within 1 most_term t
