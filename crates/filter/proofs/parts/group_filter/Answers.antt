use Rattle.std.proofs.Common.{◌≡◌, Some, sym, ap, ◌∙◌}
use Rattle.std.specs.Option.{option_map}
use Rattle.query.specs.Parts.{group_of}
use Rattle.query.specs.Shape.{shape}
use Rattle.filter.specs.Calls.{group_filter}
use Rattle.filter.proofs.Lawful.{slice_get-made, group_filter_lawful}
use Rattle.filter.proofs.parts.group_filter.Goals as goal
use Rattle.filter.proofs.parts.group_filter.Goals.{After-as_slice}

pub returns : goal.returns
returns c =
    let at = c.in_ok-alternative.ensures.lookup in
    let nodes = c.as_slice.result.now in
    let found : group_filter (shape c.args.query.now) c.args.alternative ≡ Some nodes =
    ap (option_map (λ g. g.filter)) (slice_get-made group_of _ _ _ _ c.alternatives.ensures at.3.0 at.1)
    ∙ ap Some (sym c.as_slice.ensures.value) in
    record {
      answer = sym found;
      lawful = group_filter_lawful c.args.query.now c.args.alternative nodes found;
    }
