use Rattle.query.proofs.Writes.{puts_append}
use Rattle.query.proofs.put.Tuple2Coded.put.Goals as goal

pub returns : goal.returns
returns g c = puts_append _ _ _ _ _ c.requires.room c.put.ensures c.put-2.ensures
