use Rattle.std.proofs.Common.{sym, ap, ◌∙◌}
use Rattle.query.specs.Building.{used_of}
use Rattle.query.specs.Scanning.{ahead}
use Rattle.query.specs.Grammar.{block, with_part}
use Rattle.query.specs.Limits.{most_blocks}
use Rattle.query.proofs.Scans.{sofar_more, sofar_refused, parts_none, parts_push}
use Rattle.query.proofs.cursor.Cursor.blocks.Goals as goal

pub returns-in_err-block : goal.returns-in_err-block
returns-in_err-block c done required h =
    let u = used_of c.args.builder.now in
    let s = c.loop-number.invariant done required h in
    sofar_refused s 0 most_blocks c.args.self.now c.in_ok-count.ensures u (parts_none u) _ _ _
    c.in_err-block.field-0.0 c.from_residual-in_err-block.ensures.1 c.loop-number-test.true
    (ap (λ v. ahead (block v) c.loop-number.self) (sym s.held.used)
    ∙ c.in_err-block.ensures done required s.items s.held.tracks)

pub loop-number-preserved : goal.loop-number-preserved
loop-number-preserved c done required h =
    let u = used_of c.args.builder.now in
    let s = c.loop-number.invariant done required h in
    let (b, (read, came)) = c.in_ok-block.ensures done required s.items s.held.tracks in
    sofar_more s b c.block.new.self _ c.loop-number-test.true
    (ap (λ v. ahead (block v) c.loop-number.self) (sym s.held.used) ∙ read) (parts_push u s.items b)
    (record {
      tracks = came.tracks;
      used = came.used ∙ ap (λ v. with_part v b) s.held.used ∙ sym (parts_push u s.items b);
    })
