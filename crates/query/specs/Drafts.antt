-- A query of which some parts have come in, in the order of its bytes. Assumes nothing.
--     Draft     the finished alternatives, and what the alternative in work has so far
use Rattle.std.specs.Prelude.{◌≡◌, List, [], ◌∷◌, ◌++◌, map, Some, None, vec_items, Option}
use Rattle.query.specs.declared.node.Node as node
use Rattle.query.specs.declared.pattern.TriplePattern.{TriplePattern}
use Rattle.query.specs.declared.kept.Kept.{Kept}
use Rattle.query.specs.Parts.{Part, Group, part_of, group_of}

-- what has come in: alternatives, required triples and blocks, and the triples and nodes of the part in work
pub record Draft : Type 0 where
  pub done : List Group
  pub required : List TriplePattern
  pub blocks : List Part
  pub triples : List TriplePattern
  pub nodes : List node.Node

-- the draft with these triples more in the part in work
abbrev pub with_triples_in : Draft → List TriplePattern → Draft
with_triples_in d ts = record {
  done = d.done;
  required = d.required;
  blocks = d.blocks;
  triples = d.triples ++ ts;
  nodes = d.nodes;
}

-- the draft with these nodes more in the filter in work
abbrev pub with_nodes_in : Draft → List node.Node → Draft
with_nodes_in d ns = record {
  done = d.done;
  required = d.required;
  blocks = d.blocks;
  triples = d.triples;
  nodes = d.nodes ++ ns;
}

-- the draft in which these alternatives, required triples and blocks are finished, and no part is in work
abbrev pub finished : List Group → List TriplePattern → List Part → Draft
finished done required blocks = record {
  done = done;
  required = required;
  blocks = blocks;
  triples = [];
  nodes = [];
}

-- nothing has come in
abbrev pub fresh : Draft
fresh = finished [] [] []

-- a triple more in the part in work
abbrev pub with_triple : Draft → TriplePattern → Draft
with_triple d t = with_triples_in d (t ∷ [])

-- a node more in the filter in work
abbrev pub with_node : Draft → node.Node → Draft
with_node d n = with_nodes_in d (n ∷ [])

-- the triples in work are the required ones
abbrev pub required_ended : Draft → Draft
required_ended d = record {
  done = d.done;
  required = d.triples;
  blocks = d.blocks;
  triples = [];
  nodes = d.nodes;
}

-- the triples and nodes in work are a block
abbrev pub block_ended : Draft → Draft
block_ended d = record {
  done = d.done;
  required = d.required;
  blocks = d.blocks ++ record { triples = d.triples; filter = d.nodes } ∷ [];
  triples = [];
  nodes = [];
}

-- the required triples, the blocks and the nodes in work are an alternative
abbrev pub alternative_ended : Draft → Draft
alternative_ended d = record {
  done = d.done ++ record { required = d.required; blocks = d.blocks; filter = d.nodes } ∷ [];
  required = [];
  blocks = [];
  triples = d.triples;
  nodes = [];
}

-- the draft that is kept in memory
abbrev pub draft_of : Kept → Draft
draft_of k = record {
  done = map group_of (vec_items k.done);
  required = vec_items k.required;
  blocks = map part_of (vec_items k.blocks);
  triples = vec_items k.triples;
  nodes = vec_items k.nodes;
}

-- what is kept, if anything is, is the draft
abbrev pub Keeps : Option Kept → Draft → Type 0
Keeps None d = Unit {0}
Keeps (Some k) d = draft_of k ≡ d
