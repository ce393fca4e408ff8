use Rattle.std.proofs.Common.{◌≡◌, [], length, Some, sym, ap, ◌∙◌, subst}
use Rattle.query.specs.declared.kept.Kept.{Kept}
use Rattle.query.specs.Drafts.{Keeps, draft_of, finished}
use Rattle.query.specs.Grammar.{verdict, accepted}
use Rattle.query.specs.Reads.{Answered}
use Rattle.query.proofs.Outcomes.{recovered_answered, answered_finished}
use Rattle.query.proofs.Verdicts.{accepted_is_written}
use Rattle.query.proofs.read.read.Goals as goal
use Rattle.query.proofs.read.read.Goals.{In_ok-scan}

-- the alternatives that were kept are the query that the bytes are
kept_is_read : (c : In_ok-scan) (k : Kept) → c.scan.new.builder.kept ≡ Some k
    → verdict c.args.bytes.now ≡ accepted (draft_of k).done
kept_is_read c k is =
    let (q, (e, tracks)) = c.in_ok-scan.ensures
    (record { tracks = c.new-builder.ensures.tracks; used = c.new-builder.ensures.used }) in
    let held = subst (λ x. Keeps x (finished q [] [])) is tracks.kept in
    e ∙ ap accepted (sym (ap (λ d. d.done) held))

pub finish-requires : goal.finish-requires
finish-requires c k is =
    let law = accepted_is_written c.args.bytes.now _
    (kept_is_read (goal.at.finish-requires c).In_ok-scan k is) in
    (law.0, ap length law.1)

pub returns : goal.returns
returns c =
    let bytes = c.args.bytes.now in
    let h = subst (Answered bytes) (sym c.ok_or.ensures.value)
    (answered_finished bytes c.scan.new.builder c.finish.result c.finish.ensures
    (kept_is_read (goal.at.returns c).In_ok-scan) c.in_ok-check.ensures.answer) in
    record { answer = h; written = recovered_answered bytes c.ok_or.result h }
