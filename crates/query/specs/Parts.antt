-- A query as plain lists, so that definitions can speak of it without memory. Assumes nothing.
--     Part     a block: its triples and its filter
--     Group    an alternative: its required triples, its blocks and its group filter
use Rattle.std.specs.Prelude.{List, map, vec_items}
use Rattle.query.specs.declared.node.Node.{Node}
use Rattle.query.specs.declared.pattern.TriplePattern.{TriplePattern}
use Rattle.query.specs.declared.block.Block.{Block}
use Rattle.query.specs.declared.alternative.Alternative.{Alternative}

-- a block
pub record Part : Type 0 where
  pub triples : List TriplePattern
  pub filter : List Node

-- an alternative
pub record Group : Type 0 where
  pub required : List TriplePattern
  pub blocks : List Part
  pub filter : List Node

-- the block in memory, as plain lists
abbrev pub part_of : Block → Part
part_of b = record { triples = vec_items b.triples; filter = vec_items b.filter }

-- the alternative in memory, as plain lists
abbrev pub group_of : Alternative → Group
group_of a = record {
  required = vec_items a.required;
  blocks = map part_of (vec_items a.blocks);
  filter = vec_items a.filter;
}
