use Rattle.std.proofs.Common.{◌≡◌, Some, map, sym, ap, ◌∙◌}
use Rattle.query.specs.Parts.{part_of, group_of}
use Rattle.query.specs.Shape.{shape}
use Rattle.filter.specs.Calls.{block_filter}
use Rattle.filter.proofs.Lawful.{slice_get-made, block_filter-at, block_filter_lawful}
use Rattle.filter.proofs.parts.block_filter.Goals as goal

pub returns : goal.returns
returns c =
    let at = c.in_ok-alternative.ensures.lookup in
    let within = c.in_ok-block.ensures.lookup in
    let nodes = c.as_slice.result.now in
    let found : block_filter (shape c.args.query.now) c.args.alternative c.args.block ≡ Some nodes =
    block_filter-at (shape c.args.query.now) c.args.alternative c.args.block
    (group_of c.in_ok-alternative.alternative.now) (part_of c.in_ok-block.block.now)
    (slice_get-made group_of _ _ _ _ c.alternatives.ensures at.3.0 at.1)
    (slice_get-made part_of _ _ _ _ (ap (map part_of) c.deref.ensures.value) within.3.0 within.1)
    ∙ ap Some (sym c.as_slice.ensures.value) in
    record {
      answer = sym found;
      lawful = block_filter_lawful c.args.query.now c.args.alternative c.args.block nodes found;
    }
