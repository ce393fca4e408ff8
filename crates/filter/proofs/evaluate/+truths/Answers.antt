use Rattle.std.proofs.Common.{rules, ◌≡◌, length}
use Rattle.query.specs.Limits.{most_in_part}
use Rattle.filter.proofs.Filters.{Pushed, lawful_node_more, lawful_filter_push}
use Rattle.filter.proofs.Agreement.{truths_more}
use Rattle.filter.proofs.evaluate.+truths.Goals as goal
use Rattle.filter.proofs.evaluate.+truths.Goals.{In-Some}

-- what the law of the filter says of its last node and of those below it
law : (t : _) (c : In-Some t) → Pushed c.in-Some.below.now c.in-Some.node.now
law t c = lawful_filter_push c.args.nodes.now c.in-Some.below.now c.in-Some.node.now c.in-Some.ensures.cases
    c.requires

pub truths-truths-requires : goal.truths-truths-requires
truths-truths-requires t c = (search rules, (law t c).below)

pub node_truth-requires : goal.node_truth-requires
node_truth-requires t c =
    let known = law t (goal.at.node_truth-requires t c).In-Some in
    lawful_node_more (length c.in-Some.below.now) most_in_part c.in-Some.node.now (search (rules, known.few))
    known.node

pub returns : goal.returns
returns t c entries =
    let long : length c.truths-truths.result ≡ most_in_part = search rules in
    let compared : length c.args.comparisons.now ≡ most_in_part = search rules in
    truths_more entries c.args.row.now c.args.nodes.now c.in-Some.node.now c.in-Some.below.now
    c.in-Some.ensures.cases (law t (goal.at.returns t c).In-Some) c.args.comparisons.now
    c.truths-truths.result c.node_truth.result compared long (c.truths-truths.ensures entries)
    (c.node_truth.ensures entries)
