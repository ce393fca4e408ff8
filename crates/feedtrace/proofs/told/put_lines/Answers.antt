-- Each item's line is written behind those before it, and the count behind them all.
use Rattle.std.proofs.Common.{ap, is_ok, subst}
use Rattle.std.specs.Fmt.{DisplaysOnOk, with_newline}
use Rattle.feedtrace.proofs.Outcomes.{put_count, put_line}
use Rattle.feedtrace.proofs.told.put_lines.Goals as goal

pub loop-item-preserved : goal.loop-item-preserved
loop-item-preserved g c text shows plain =
    let put = g.W.Write.write_str_gives
    in let item = c.item-item.result
    in let before = c.loop-item.invariant text shows plain
    in let line = subst (λ o. DisplaysOnOk put c.loop-item.f c.writeln.result (with_newline o)
    c.writeln.new.self) (shows item) c.writeln.ensures.writes
    in put_line put c.args.f.now c.loop-item.f c.writeln.new.self text c.args.items.now c.loop-item.item-index
    item c.loop-item-test.true c.item-item.is before (line before.plain (ap is_ok c.in_ok-writeln.was))

pub returns : goal.returns
returns g c text shows plain ok =
    let before = c.loop-item.invariant text shows plain
    in put_count g.W.Write.write_str_gives c.args.f.now c.loop-item.f c.write.new.self text c.args.items.now
    c.loop-item.item-index c.args.what.now c.loop-item-test.false before
    (c.write.ensures.writes before.plain ok)
