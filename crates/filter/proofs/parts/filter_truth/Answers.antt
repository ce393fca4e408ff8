use Rattle.filter.proofs.Calls.{settled}
use Rattle.filter.proofs.parts.filter_truth.Goals as goal

pub returns-clause-law : goal.returns-clause-law
returns-clause-law g c =
    let entries = g.C.Catalogue.entries c.args.catalogue.now in
    settled entries c.args.row.now c.args.nodes.now c.evaluate.result c.requires
    (c.evaluate.ensures entries c.comparisons-comparisons.ensures.answer)
