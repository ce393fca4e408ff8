-- The triple right behind another. Assumes nothing.
use Rattle.std.specs.Prelude.{ℕ, ◌+◌, min}
use Rattle.triples.specs.declared.triple.Triple.{Triple}

-- the triple right behind t: the same subject and property, and the next object
abbrev pub behind : Triple → Triple
behind t = record { subject = t.subject; property = t.property; object = t.object + 1 }

-- the largest 32-bit number
abbrev pub largest_number : ℕ
largest_number = 4294967295

-- the triple right behind t among those of 32-bit numbers, t where its object is the largest of these
abbrev pub step : Triple → Triple
step t = record { subject = t.subject; property = t.property; object = min (t.object + 1) largest_number }
