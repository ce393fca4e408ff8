use Rattle.std.proofs.Common.{refl}
use Rattle.feedtrace.proofs.lay.Layered.under_withdrawn.Goals as goal

pub returns-in-Left : goal.returns-in-Left
returns-in-Left c =
    rw c.in-Left.is (refl, (c.new.result, (refl, (c.new.ensures.same, c.new.ensures.written))))
