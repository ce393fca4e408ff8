use Rattle.std.proofs.Common.{◌∙◌, refl, subst}
use Rattle.std.proofs.lemmas.List.{length_push}
use Rattle.query.specs.Building.{Tracks}
use Rattle.query.specs.Drafts.{with_triples_in}
use Rattle.query.specs.Grammar.{room}
use Rattle.query.proofs.Drafts.{triple_in, recounted}
use Rattle.query.proofs.Scans.{sofar_more, sofar_refused}
use Rattle.query.proofs.cursor.Cursor.triples.Goals as goal

pub returns-in_err-triple : goal.returns-in_err-triple
returns-in_err-triple c d h =
    let b = c.args.builder.now in
    sofar_refused (c.loop-number.invariant d (recounted b d c.tallied.new.tally b.nodes h)) c.args.least
    (room b.triples.total) c.args.self.now c.in_ok-count.ensures.answer 0 refl _ _ _ c.in_err-triple.field-0.0
    c.from_residual-in_err-triple.ensures.1 c.loop-number-test.true c.in_err-triple.ensures

pub loop-number-preserved : goal.loop-number-preserved
loop-number-preserved c d h =
    let s = c.loop-number.invariant d h in
    let t = c.in_ok-triple.triple in
    sofar_more s t c.triple.new.self _ c.loop-number-test.true c.in_ok-triple.ensures (length_push s.items t)
    (record {
      tracks = subst (Tracks c.triple-in-loop-number.new.self) (triple_in d s.items t)
          (c.triple-in-loop-number.ensures.tracks (with_triples_in d s.items) s.held.tracks);
      used = c.triple-in-loop-number.ensures.used ∙ s.held.used;
    })
