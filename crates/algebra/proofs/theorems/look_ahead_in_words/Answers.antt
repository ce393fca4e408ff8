use Rattle.query.specs.Shape.{shape}
use Rattle.algebra.proofs.LookAhead.{look_ahead_in_words}
use Rattle.algebra.proofs.theorems.look_ahead_in_words.Goals as goal

pub returns : goal.returns
returns g c =
    look_ahead_in_words (g.S.Store.meaning c.args.store.now) (shape c.args.query.now)
    (g.S.Store.sound c.args.store.now) c.args.query.now.keeps
