-- In which order answers come. Assumes nothing.
--     first_part g v      the first part of the alternative whose triples hold v
--     Before g r s        among the answers of g, r comes before s
--     Precedes q a b      among the answers of q, a comes before b
--     Ascending R xs      each element of xs is before every later one
use Rattle.std.specs.Prelude.{◌≡◌, ℕ, ◌+◌, ◌<◌, cond, ◌⊎◌, List, [], ◌∷◌, map, Some, None, Option}
use Rattle.std.specs.Prelude.{slice_index_or}
use Rattle.std.specs.List.{AllByRecursion}
use Rattle.query.specs.declared.pattern.TriplePattern.{TriplePattern}
use Rattle.query.specs.Lawful.{mentions}
use Rattle.query.specs.Parts.{Group}
use Rattle.filter.specs.Rows.{Row, value}
use Rattle.algebra.specs.Answers.{Answer}

-- the parts of an alternative: its required triples are part 0, its blocks the parts from 1 on
abbrev pub parts_of : Group → List (List TriplePattern)
parts_of g = g.required ∷ map (λ b. b.triples) g.blocks

-- the first of the parts, counted from p, whose triples hold v; none where no part does
abbrev pub first_part_from : ℕ → ℕ → List (List TriplePattern) → Option ℕ
first_part_from v p [] = None
first_part_from v p (ts ∷ parts) = cond (mentions v ts) (Some p) (first_part_from v (p + 1) parts)

-- the part to which v belongs: the first whose triples hold it
abbrev pub first_part : Group → ℕ → Option ℕ
first_part g v = first_part_from v 0 (parts_of g)

-- the first part that gave r and s different values is part, the lowest of its variables at which they differ
-- is variable, and r has the smaller value there
pub record Before (g : Group) (r s : Row) : Type 0 where
  pub part : ℕ
  pub variable : ℕ
  pub own : first_part g variable ≡ Some part
  pub smaller : value r variable < value s variable
  pub earlier : (w p : ℕ) → first_part g w ≡ Some p → p < part → value r w ≡ value s w
  pub lower : (w : ℕ) → first_part g w ≡ Some part → w < variable → value r w ≡ value s w

-- the alternative without parts, read where there is none
abbrev pub no_group : Group
no_group = record { required = []; blocks = []; filter = [] }

-- a comes before b: its alternative is lower; or they are of one alternative, and its row comes first there
abbrev pub Precedes : List Group → Answer → Answer → Type 0
Precedes q a b =
    (a.alternative < b.alternative)
    ⊎ ((a.alternative ≡ b.alternative) × Before (slice_index_or q a.alternative no_group) a.row b.row)

-- each element is before every later one
abbrev pub Ascending : {A : Type 0} → (A → A → Type 0) → List A → Type 0
Ascending before [] = Unit {0}
Ascending before (x ∷ xs) = AllByRecursion (before x) xs × Ascending before xs
