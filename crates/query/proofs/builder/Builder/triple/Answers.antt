use Rattle.std.proofs.Common.{refl, rules}
use Rattle.query.specs.Drafts.{with_triple}
use Rattle.query.proofs.builder.Builder.triple.Goals as goal

pub returns : goal.returns
returns c = record {
  tracks = λ d h. record {
    part = c.add_triple.ensures d.triples h.part;
    required = h.required;
    once = h.once;
    twice = h.twice;
    shared = h.shared;
    kept = c.keep.ensures (λ d. with_triple d c.args.triple) (λ k k' r e. search rules) d h.kept;
  };
  used = refl;
}
