use Rattle.std.proofs.Common.{sym, refl, ap, ◌∙◌}
use Rattle.query.specs.Scanning.{ahead}
use Rattle.query.specs.Grammar.{alternative, unused, with_group}
use Rattle.query.specs.Limits.{most_alternatives}
use Rattle.query.proofs.Scans.{sofar_more, sofar_refused, groups_push}
use Rattle.query.proofs.cursor.Cursor.alternatives.Goals as goal

pub returns-in_err-alternative : goal.returns-in_err-alternative
returns-in_err-alternative c h =
    let s = c.loop-number.invariant h in
    sofar_refused s 1 most_alternatives c.args.self.now c.in_ok-count.ensures unused refl _ _ _
    c.in_err-alternative.field-0.0 c.from_residual-in_err-alternative.ensures.1 c.loop-number-test.true
    (ap (λ v. ahead (alternative v) c.loop-number.self) (sym s.held.used)
    ∙ c.in_err-alternative.ensures s.items s.held.tracks)

pub loop-number-preserved : goal.loop-number-preserved
loop-number-preserved c h =
    let s = c.loop-number.invariant h in
    let (g, (read, came)) = c.in_ok-alternative.ensures s.items s.held.tracks in
    sofar_more s g c.alternative.new.self _ c.loop-number-test.true
    (ap (λ v. ahead (alternative v) c.loop-number.self) (sym s.held.used) ∙ read) (groups_push s.items g)
    (record {
      tracks = came.tracks;
      used = came.used ∙ ap (λ v. with_group v g) s.held.used ∙ sym (groups_push s.items g);
    })
