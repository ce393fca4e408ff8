-- What a store stands for with the inverse of a property. Assumes nothing.
--     flip n t     o n s where t is s p o, whatever p is
use Rattle.std.specs.Prelude.{ℕ, Bool, ◌&&◌, ◌==◌, nat_le}
use Rattle.triples.specs.declared.triple.Triple.{Triple}
use Rattle.triples.specs.Meaning.{Meaning}
use Rattle.triples.specs.Unions.{union}

-- t with subject and object exchanged and n as its property
abbrev pub flip : ℕ → Triple → Triple
flip n t = record { subject = t.object; property = n; object = t.subject }

-- t is o q s for a triple s p o of m
abbrev pub inverse_of : ℕ → ℕ → Meaning → Triple → Bool
inverse_of p q m t = t.property == q && m.has (flip p t)

-- the triples of m, and o q s for each s p o of m, under the same top
abbrev pub with_inverse : ℕ → ℕ → Meaning → Meaning
with_inverse p q m = record { top = m.top; has = union m.has (inverse_of p q m) }

-- t is o q s for a triple s p o of m; none is where q is over the top
abbrev pub turned : ℕ → ℕ → Meaning → Triple → Bool
turned p q m t = nat_le q m.top && inverse_of p q m t

-- with_inverse p q m, and m alone where q is over the top
abbrev pub with_turned : ℕ → ℕ → Meaning → Meaning
with_turned p q m = record { top = m.top; has = union m.has (turned p q m) }
