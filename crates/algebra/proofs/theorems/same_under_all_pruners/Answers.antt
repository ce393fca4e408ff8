use Rattle.query.specs.Shape.{shape}
use Rattle.algebra.proofs.Walks.{same_under_all_pruners}
use Rattle.algebra.proofs.theorems.same_under_all_pruners.Goals as goal

pub returns : goal.returns
returns g c =
    same_under_all_pruners (g.S.Store.meaning c.args.store.now) (g.C.Catalogue.entries c.args.catalogue.now)
    (shape c.args.query.now)
