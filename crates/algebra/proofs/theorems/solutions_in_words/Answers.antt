use Rattle.query.specs.Shape.{shape}
use Rattle.algebra.proofs.Solutions.{solutions_in_words}
use Rattle.algebra.proofs.theorems.solutions_in_words.Goals as goal

pub returns : goal.returns
returns g c =
    solutions_in_words (g.S.Store.meaning c.args.store.now) (g.C.Catalogue.entries c.args.catalogue.now)
    (shape c.args.query.now) (g.S.Store.sound c.args.store.now) c.args.query.now.keeps
