use Rattle.query.specs.Shape.{shape}
use Rattle.algebra.proofs.TotalOrder.{order_is_total}
use Rattle.algebra.proofs.theorems.order_is_total.Goals as goal

pub returns : goal.returns
returns g c =
    order_is_total (shape c.args.query.now) (g.S.Store.meaning c.args.store.now)
    (g.C.Catalogue.entries c.args.catalogue.now)
