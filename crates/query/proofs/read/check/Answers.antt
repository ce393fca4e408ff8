use Rattle.query.proofs.Outcomes.{checked_scanned, recognised_checked}
use Rattle.query.proofs.read.check.Goals as goal

pub returns : goal.returns
returns c =
    let bytes = c.args.bytes.now in
    let h = checked_scanned bytes c.scan.result c.scan.new.builder
    (c.scan.ensures (record
    { tracks = c.new-builder.ensures.tracks; used = c.new-builder.ensures.used })) in
    record { answer = h; written = recognised_checked bytes c.scan.result h }
