use Rattle.std.proofs.Common.{◌≡◌, ◌+◌, ◌∙◌, length, refl, ap, subst, arith}
use Rattle.std.proofs.lemmas.List.{length_push}
use Rattle.query.specs.Building.{Tracks}
use Rattle.query.specs.Drafts.{with_nodes_in}
use Rattle.query.specs.Grammar.{node, room}
use Rattle.query.specs.Scanning.{ahead}
use Rattle.query.proofs.Drafts.{node_in, recounted}
use Rattle.query.proofs.Scans.{sofar_more, sofar_all, sofar_refused}
use Rattle.query.proofs.cursor.Cursor.filter.Goals as goal

pub returns-in_err-node : goal.returns-in_err-node
returns-in_err-node c d h =
    let b = c.args.builder.now in
    let s = c.loop-number.invariant d (recounted b d b.triples c.tallied.new.tally h) in
    sofar_refused s 0 (room b.nodes.total) c.args.self.now c.in_ok-count.ensures.answer 0 refl _ _ _
    c.in_err-node.field-0.0 c.from_residual-in_err-node.ensures.1 c.loop-number-test.true
    (ap (λ i. ahead (node i) c.loop-number.self) s.many ∙ c.in_err-node.ensures)

pub loop-number-preserved : goal.loop-number-preserved
loop-number-preserved c d h =
    let s = c.loop-number.invariant d h in
    let n = c.in_ok-node.node in
    sofar_more s n c.node.new.self _ c.loop-number-test.true
    (ap (λ i. ahead (node i) c.loop-number.self) s.many ∙ c.in_ok-node.ensures) (length_push s.items n)
    (record {
      tracks = subst (Tracks c.node-in-loop-number.new.self) (node_in d s.items n)
          (c.node-in-loop-number.ensures.tracks (with_nodes_in d s.items) s.held.tracks);
      used = c.node-in-loop-number.ensures.used ∙ s.held.used;
    })

pub returns : goal.returns
returns c d h =
    let b = c.args.builder.now in
    let s = c.loop-number.invariant d (recounted b d b.triples c.tallied.new.tally h) in
    let counted : c.tallied.new.tally.total ≡ b.nodes.total + length s.items =
    omega (arith, c.in_ok-count.ensures.counted, s.many, s.within) in (
      s.items,
      (
        sofar_all s 0 (room b.nodes.total) c.args.self.now c.in_ok-count.ensures.answer 0 refl
            c.loop-number-test.false,
        record {
          tracks = s.held.tracks;
          used = s.held.used ∙ ap (λ n. record { triples = b.triples.total; nodes = n }) counted;
        },
      ),
    )
