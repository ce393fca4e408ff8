use Rattle.query.specs.Shape.{shape}
use Rattle.algebra.proofs.Completeness.{walk_lists_answers}
use Rattle.algebra.proofs.theorems.walk_lists_answers.Goals as goal

pub returns : goal.returns
returns g c =
    walk_lists_answers (g.S.Store.meaning c.args.store.now) (g.C.Catalogue.entries c.args.catalogue.now)
    (shape c.args.query.now) c.args.query.now.keeps
