use Rattle.query.specs.Shape.{shape}
use Rattle.algebra.proofs.Numbered.{once_in_each}
use Rattle.algebra.proofs.theorems.once_in_each.Goals as goal

pub returns : goal.returns
returns g c =
    once_in_each (g.S.Store.meaning c.args.store.now) (g.C.Catalogue.entries c.args.catalogue.now)
    (shape c.args.query.now) c.args.query.now.keeps
