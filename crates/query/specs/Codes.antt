-- The numbers that stand for places and for kinds of nodes in a query's bytes. Assumes nothing.
--     code_of p       the code of a place: 2v + 1 for variable v, 2t for term t
--     place_from c    the place that has the code c, if there is such a lawful place
--     number_of k     the number of a node kind
--     kind_from n     the kind that has the number n, if there is one
use Rattle.std.specs.Prelude.{ℕ, ◌+◌, ◌*◌, ◌/◌, Bool, cond, ◌&&◌, List, [], ◌∷◌, Some, None, Option, ◌==◌}
use Rattle.query.specs.declared.place.Place.{Place}
use Rattle.query.specs.declared.place.Place.TheVariants.{Variable, Term}
use Rattle.query.specs.declared.kind.Kind.{Kind}
use Rattle.query.specs.declared.kind.Kind.TheVariants.{Equal, Less, Bound, Not, And, Or}
use Rattle.query.specs.Limits.{lawful_place}

-- x where the test holds, else none
abbrev pub when : {A : Type 0} → Bool → A → Option A
when test x = cond test (Some x) None

-- the code that stands for the place
abbrev pub code_of : Place → ℕ
code_of (Variable v) = 2 * v + 1
code_of (Term t) = 2 * t

-- the first of the places that is lawful and has the code
abbrev pub place_among : List Place → ℕ → Option Place
place_among [] code = None
place_among (p ∷ ps) code = cond (code_of p == code && lawful_place p) (Some p) (place_among ps code)

-- the lawful place that has the code, which is the variable or the term whose number is half of it
abbrev pub place_from : ℕ → Option Place
place_from code = place_among (Variable (code / 2) ∷ Term (code / 2) ∷ []) code

-- the number that stands for the kind
abbrev pub number_of : Kind → ℕ
number_of Equal = 1
number_of Less = 2
number_of Bound = 3
number_of Not = 4
number_of And = 5
number_of Or = 6

-- the first of the kinds that has the number
abbrev pub kind_among : List Kind → ℕ → Option Kind
kind_among [] n = None
kind_among (k ∷ ks) n = cond (number_of k == n) (Some k) (kind_among ks n)

-- the kind that has the number
abbrev pub kind_from : ℕ → Option Kind
kind_from n = kind_among (Equal ∷ Less ∷ Bound ∷ Not ∷ And ∷ Or ∷ []) n
