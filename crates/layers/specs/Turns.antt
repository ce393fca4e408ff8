-- How a turned triple is asked for. Assumes nothing.
use Rattle.std.specs.Prelude.{ℕ, cond, ◌&&◌, Some, None, Option, ◌==◌, nat_le, nat_lt}
use Rattle.triples.specs.declared.selector.Selector.{Selector}
use Rattle.triples.specs.declared.triple.Triple.{Triple}
use Rattle.triples.specs.Selectors.{accepts}

-- which s p o to ask for where s says which o q s; none where no o q s is wanted, or q is over the top
abbrev pub swapped : ℕ → ℕ → ℕ → Selector → Option Selector
swapped p q top s =
    cond (nat_le q top && accepts s.property q)
    (Some (record { subject = s.object; property = p; object = s.subject })) None

-- the least x from which on o q x is not below start; none where each is below it
abbrev pub object_from : ℕ → ℕ → Triple → Option ℕ
object_from q o start =
    cond (o == start.subject)
    (cond (q == start.property) (Some start.object) (cond (nat_lt q start.property) None (Some 0)))
    (cond (nat_lt o start.subject) None (Some 0))
