use Rattle.query.proofs.Verdicts.{accepted_exactly}
use Rattle.query.proofs.theorems.accepted_exactly.Goals as goal

pub returns : goal.returns
returns c = accepted_exactly
