-- A triple is a member exactly if an element is equal to it.
use Rattle.std.proofs.Common.{◌∙◌}
use Rattle.layers.specs.Members.{members}
use Rattle.layers.proofs.Sets.{any_among}
use Rattle.layers.proofs.triple_set.TripleSet.has.Goals as goal

pub returns : goal.returns
returns c =
    rw c.as_slice.ensures.value at c.contains.ensures.value
    ∙ any_among (members c.args.self.now) c.args.triple
