-- A query's alternatives as plain lists, and how much it holds. Assumes nothing.
use Rattle.std.specs.Prelude.{List, map, length, vec_items}
use Rattle.query.specs.declared.inspect.Counts.{Counts}
use Rattle.query.specs.declared.query.Query.{Query}
use Rattle.query.specs.Parts.{Group, group_of}
use Rattle.query.specs.Lawful.{total, triples_in, nodes_in}

-- the alternatives of the query
abbrev pub shape : Query → List Group
shape q = map group_of (vec_items q.alternatives)

-- how much the alternatives hold
abbrev pub counts_of : List Group → Counts
counts_of q = record {
  alternatives = length q;
  blocks = total (λ g. length g.blocks) q;
  triples = total triples_in q;
  nodes = total nodes_in q;
}
