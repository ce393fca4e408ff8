-- The triples of a small set. Assumes nothing.
use Rattle.std.specs.Prelude.{List}
use Rattle.triples.specs.declared.triple.Triple.{Triple}
use Rattle.layers.specs.declared.triple_set.TripleSet.{TripleSet}

-- the triples that the set holds, in order
abbrev pub members : TripleSet → List Triple
members s = s.triples.items
