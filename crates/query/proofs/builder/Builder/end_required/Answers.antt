use Rattle.std.proofs.Common.{refl, rules}
use Rattle.query.specs.Drafts.{required_ended}
use Rattle.query.proofs.builder.Builder.end_required.Goals as goal

pub returns : goal.returns
returns c = record {
  tracks = λ d h. record {
    part = rw c.replace-self.ensures.after c.empty.ensures;
    required = rw c.replace-self.ensures.value h.part;
    once = h.once;
    twice = h.twice;
    shared = h.shared;
    kept = c.keep.ensures required_ended (λ k k' r e. search rules) d h.kept;
  };
  used = refl;
}
