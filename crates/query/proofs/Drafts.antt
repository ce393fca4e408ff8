-- Laws of drafts and of what is kept of them. Assumes nothing.
use Rattle.std.proofs.Common.{◌≡◌, List, [], ◌∷◌, ◌++◌, ap}
use Rattle.std.proofs.lemmas.List.{append_assoc}
use Rattle.query.specs.declared.node.Node.{Node}
use Rattle.query.specs.declared.pattern.TriplePattern.{TriplePattern}
use Rattle.query.specs.declared.builder.Builder.{Builder}
use Rattle.query.specs.Drafts.{Draft, with_triple, with_node}
use Rattle.query.specs.Building.{Tracks}
use Rattle.query.specs.Drafts.{with_triples_in, with_nodes_in}
use Rattle.query.specs.declared.tally.Tally.{Tally}

-- with_triples_in, with_nodes_in

pub triple_in : (d : Draft) (ts : List TriplePattern) (t : TriplePattern)
    → with_triple (with_triples_in d ts) t ≡ with_triples_in d (ts ++ t ∷ [])
triple_in d ts t =
    ap (λ l. record {
      done = d.done;
      required = d.required;
      blocks = d.blocks;
      triples = l;
      nodes = d.nodes;
    }) (append_assoc d.triples ts (t ∷ []))

pub node_in : (d : Draft) (ns : List Node) (n : Node) → with_node (with_nodes_in d ns) n
    ≡ with_nodes_in d (ns ++ n ∷ [])
node_in d ns n =
    ap (λ l. record {
      done = d.done;
      required = d.required;
      blocks = d.blocks;
      triples = d.triples;
      nodes = l;
    }) (append_assoc d.nodes ns (n ∷ []))

-- Tracks

-- counting changes nothing of what is known of the draft
pub recounted : (b : Builder) (d : Draft) (triples nodes : Tally) → Tracks b d
    → Tracks (record b { triples = triples; nodes = nodes }) d
recounted b d triples nodes h = record {
  part = h.part;
  required = h.required;
  once = h.once;
  twice = h.twice;
  shared = h.shared;
  kept = h.kept;
}
