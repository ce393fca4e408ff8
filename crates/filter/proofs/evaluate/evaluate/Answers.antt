use Rattle.std.proofs.Common.{rules, ◌≡◌, ◌+◌, length, sym, ◌∙◌, arith}
use Rattle.std.proofs.lemmas.List.{get_or_default}
use Rattle.query.specs.Limits.{most_in_part}
use Rattle.filter.specs.declared.truth.Truth.TheVariants.{False, Error}
use Rattle.filter.proofs.Filters.{lawful_few, filter_truth_at}
use Rattle.filter.proofs.evaluate.evaluate.Goals as goal

pub returns-in-Some : goal.returns-in-Some
returns-in-Some c entries h =
    let last = c.in-Some.last in
    let nodes = c.args.nodes.now in
    let ts = c.truths-truths.result in
    let long : length ts ≡ most_in_part = search rules in
    let many : length nodes ≡ last + 1 = omega (arith, c.in-Some.ensures) in
    let few = lawful_few nodes c.requires in
    get_or_default ts last False Error (omega (arith, many, few, long))
    ∙ c.truths-truths.ensures entries h last (omega (arith, many))
    ∙ sym (filter_truth_at entries c.args.row.now nodes last many)
