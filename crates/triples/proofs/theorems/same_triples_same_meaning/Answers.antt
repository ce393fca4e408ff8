use Rattle.triples.proofs.Equality.{same_triples_same_meaning}
use Rattle.triples.proofs.theorems.same_triples_same_meaning.Goals as goal

pub returns : goal.returns
returns c = same_triples_same_meaning
