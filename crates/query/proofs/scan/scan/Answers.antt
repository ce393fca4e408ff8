use Rattle.std.proofs.Common.{sym, ◌∙◌}
use Rattle.query.proofs.Verdicts.{verdict_left, verdict_shared, verdict_accepted}
use Rattle.query.proofs.Verdicts.{nothing_left, something_left}
use Rattle.query.proofs.Outcomes.{scanned_refused, rejected_as}
use Rattle.query.proofs.scan.scan.Goals as goal

pub returns-in_err-alternatives : goal.returns-in_err-alternatives
returns-in_err-alternatives c h =
    scanned_refused c.args.bytes.now c.from_residual.result c.alternatives.new.builder
    c.in_err-alternatives.field-0.0 c.from_residual.ensures.1 (c.in_err-alternatives.ensures h)

pub returns-then-not-is_empty : goal.returns-then-not-is_empty
returns-then-not-is_empty c h =
    let (q, (read, tracks)) = c.in_ok-alternatives.ensures h in
    let left = c.alternatives.new.self in
    verdict_left c.args.bytes.now q left.at left.rest.now read
    (something_left left.rest.now c.if-not-is_empty.ensures) ∙ rejected_as c.at.result c.at.ensures

pub returns-then-builder : goal.returns-then-builder
returns-then-builder c h =
    let (q, (read, tracks)) = c.in_ok-alternatives.ensures h in
    let left = c.alternatives.new.self in
    verdict_shared c.args.bytes.now q left.at left.rest.now read
    (nothing_left left.rest.now c.if-not-is_empty.ensures) (sym tracks.shared ∙ c.if-builder.true)
    ∙ rejected_as c.at-then-builder.result c.at-then-builder.ensures

pub returns : goal.returns
returns c h =
    let (q, (read, tracks)) = c.in_ok-alternatives.ensures h in
    let left = c.alternatives.new.self in (
      q,
      (
        verdict_accepted c.args.bytes.now q left.at left.rest.now read
            (nothing_left left.rest.now c.if-not-is_empty.ensures) (sym tracks.shared ∙ c.if-builder.false),
        tracks,
      ),
    )
