use Rattle.std.proofs.Common.{refl, rules}
use Rattle.query.specs.Drafts.{with_node}
use Rattle.query.proofs.builder.Builder.node.Goals as goal

pub returns : goal.returns
returns c = record {
  tracks = λ d h. record {
    part = h.part;
    required = h.required;
    once = h.once;
    twice = h.twice;
    shared = h.shared;
    kept = c.keep.ensures (λ d. with_node d c.args.node) (λ k k' r e. search rules) d h.kept;
  };
  used = refl;
}
