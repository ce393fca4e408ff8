-- Two sets taken together, and the better of two answers. Assumes nothing.
use Rattle.std.specs.Prelude.{ℕ, Bool, cond, ◌||◌, Some, None, Option, nat_lt}
use Rattle.std.specs.Ordering.{ord_min}
use Rattle.std.specs.declared.cmp.Ordering.{Ordering}
use Rattle.triples.specs.declared.triple.Triple.{Triple}
use Rattle.triples.specs.Order.{before}

-- t is in one of the two sets
abbrev pub union : (Triple → Bool) → (Triple → Bool) → Triple → Bool
union has other t = has t || other t

-- the lesser one under the order, the first where they are equal, or the only one; none of none
abbrev pub least : {X : Type 0} → (X → X → Ordering) → Option X → Option X → Option X
least order None b = b
least order (Some x) None = Some x
least order (Some x) (Some y) = Some (ord_min order x y)

-- the one that comes before, or the only one; none of none
abbrev pub earlier : Option Triple → Option Triple → Option Triple
earlier None b = b
earlier (Some t) None = Some t
earlier (Some t) (Some u) = cond (before u t) (Some u) (Some t)

-- the smaller one, or the only one; none of none
abbrev pub lesser : Option ℕ → Option ℕ → Option ℕ
lesser None b = b
lesser (Some n) None = Some n
lesser (Some n) (Some k) = cond (nat_lt k n) (Some k) (Some n)
