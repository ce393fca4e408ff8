-- A triple as text. Assumes nothing.
use Rattle.std.specs.Prelude.{ℕ, List, ◌++◌, codes, decimal}
use Rattle.triples.specs.declared.triple.Triple.{Triple}

-- subject, property and object as decimal numbers, one space between two
abbrev pub triple_text : Triple → List ℕ
triple_text t = decimal t.subject ++ (codes " " ++ (decimal t.property ++ (codes " " ++ decimal t.object)))
