-- Each byte is written behind those before it, after a space but for the first.
use Rattle.std.proofs.Common.{◌≡◌, ◌∙◌, ◌<◌, ◌++◌, get_or, is_ok, Some, ap, arith, rules, sym}
use Rattle.std.proofs.Output.{has_written_of_eq}
use Rattle.std.specs.Fmt.{◌++?◌}
use borrow.Author.Tests.{tests}
use Rattle.hex_text.specs.Writing.{pair}
use Rattle.hex_text.proofs.Writing.{lead, lead_later, put_then, shown_as, shown_byte}
use Rattle.hex_text.proofs.Writing.{text_of_all, text_of_more}
use Rattle.hex_text.proofs.text.HexTextDisplay.fmt.Goals.{then-i-eq0, else-i-eq0}
use Rattle.hex_text.proofs.text.HexTextDisplay.fmt.Goals as goal

pub loop-i-preserved : goal.loop-i-preserved
loop-i-preserved g c plain =
    let put = g.W.Write.write_str_gives
    in let shown = shown_byte _ c.in_radix.result c.laid_out.result (omega arith)
    c.in_radix.ensures c.laid_out.ensures
    in let led : c.if-i-eq0.space.now ≡ lead c.loop-i.i = elim c.if-i-eq0.branch [
      | then-i-eq0 w ↦ let first : c.loop-i.i ≡ 0 = search (rules, tests) in
          ap (λ s. s.now) w.space-is ∙ sym (ap lead first)
      | else-i-eq0 w ↦ let later : 0 < c.loop-i.i = grind (arith, tests) in
          ap (λ s. s.now) w.space-is ∙ sym (lead_later _ later)
    ]
    in put_then put (text_of_more c.args.self.now.bytes.now c.loop-i.i (omega arith))
    (c.loop-i.invariant plain)
    (λ next. shown_as put c.write.result (ap (λ o. Some c.if-i-eq0.space.now ++? o) shown
    ∙ ap (λ s. Some (s ++ pair (get_or c.args.self.now.bytes.now c.loop-i.i 0))) led)
    c.write.ensures.writes next (ap is_ok c.in_ok-write.was))

pub returns-clause-writes : goal.returns-clause-writes
returns-clause-writes g c plain ok =
    has_written_of_eq g.W.Write.write_str_gives _ _ _ _
    (text_of_all c.args.self.now.bytes.now c.loop-i.i (omega arith))
    (c.loop-i.invariant plain)
