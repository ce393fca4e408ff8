use Rattle.std.proofs.Common.{get_or, ap, ◌∙◌, arith}
use Rattle.std.proofs.lemmas.List.{length-set}
use Rattle.filter.specs.Comparisons.{comparison}
use Rattle.filter.proofs.Agreement.{no_node, read_more}
use Rattle.filter.proofs.comparisons.comparisons.Goals as goal

pub loop-number-preserved : goal.loop-number-preserved
loop-number-preserved g c =
    let l = c.loop-number in
    let seen = l.invariant in
    let row = c.args.row.now in
    let nodes = c.args.nodes.now in
    record {
      long = length-set l.truths l.number c.comparison.result ∙ seen.long;
      read = read_more (g.C.Catalogue.entries c.args.catalogue.now) row nodes l.number l.truths
          c.comparison.result c.loop-number-test.true
          (omega (arith, seen.long, c.loop-number-test.true, c.requires)) seen.read
          (c.comparison.ensures.answer
          ∙ ap (λ e. comparison e row (get_or nodes l.number no_node)) seen.same);
      same = c.comparison.ensures.same ∙ seen.same;
      kept = c.comparison.ensures.kept ∙ seen.kept;
    }
