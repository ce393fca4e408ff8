-- How triples compare: by subject, then property, then object. Assumes nothing.
use Rattle.std.specs.Prelude.{ℕ, Bool, cond, ◌&&◌, Some, None, Option, ◌==◌, nat_le, nat_lt}
use Rattle.triples.specs.declared.position.Position.{Position}
use Rattle.triples.specs.declared.position.Position.TheVariants.{Subject, Property, Object}
use Rattle.triples.specs.declared.triple.Triple.{Triple}

-- t comes before u: at the first position where they differ, t has the smaller number
abbrev pub before : Triple → Triple → Bool
before t u =
    cond (t.subject == u.subject)
    (cond (t.property == u.property) (nat_lt t.object u.object) (nat_lt t.property u.property))
    (nat_lt t.subject u.subject)

-- t and u have the same number at each position
abbrev pub same : Triple → Triple → Bool
same t u = t.subject == u.subject && (t.property == u.property && t.object == u.object)

-- the number of t at the position
abbrev pub value_at : Position → Triple → ℕ
value_at Subject t = t.subject
value_at Property t = t.property
value_at Object t = t.object

-- the number at the position of the triple found, if it is not below the bound
abbrev pub number_from : Position → ℕ → Option Triple → Option ℕ
number_from position bound None = None
number_from position bound (Some t) =
    cond (nat_le bound (value_at position t)) (Some (value_at position t)) None
