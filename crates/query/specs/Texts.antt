-- Parts of a query, and how much one holds, as text. Assumes nothing.
use Rattle.std.specs.Prelude.{ℕ, List, ◌++◌, codes, decimal}
use Rattle.query.specs.declared.inspect.Counts.{Counts}
use Rattle.query.specs.declared.pattern.TriplePattern.{TriplePattern}
use Rattle.query.specs.declared.place.Place.{Place}
use Rattle.query.specs.declared.place.Place.TheVariants.{Variable, Term}

-- a variable by its number behind ?v, and a term by its number alone
abbrev pub place_text : Place → List ℕ
place_text (Variable v) = codes "?v" ++ decimal v
place_text (Term t) = decimal t

-- the three places, a space behind each, and a full stop
abbrev pub triple_text : TriplePattern → List ℕ
triple_text t =
    place_text t.subject ++ (codes " " ++ (place_text t.property ++ (codes " " ++ (place_text t.object
    ++ codes " ."))))

-- how many alternatives, blocks, triples and nodes
abbrev pub counts_text : Counts → List ℕ
counts_text c =
    decimal c.alternatives ++ (codes " alternatives, " ++ (decimal c.blocks ++ (codes " blocks, "
    ++ (decimal c.triples ++ (codes " triples, " ++ (decimal c.nodes ++ codes " nodes"))))))
