use Rattle.std.proofs.Common.{◌+◌, ◌≤◌, length, ◌∙◌}
use Rattle.std.specs.List.{flat_map}
use Rattle.varint.specs.Encode.{encode}
use Rattle.query.proofs.Writes.{put_append, completes_more, completes_all, room_second}
use Rattle.query.proofs.put.RefSliceCoded.put.Given as given
use Rattle.query.proofs.put.RefSliceCoded.put.Goals as goal
use Rattle.query.proofs.put.RefSliceCoded.put.Goals.{After-put}

-- the items fit behind their count
fits : (g : given.Over) (c : After-put g)
    → c.put.new.writer.at + length (flat_map g.T.Coded.code c.args.self.now.now) ≤ length
    c.put.new.writer.out.now
fits g c =
    let xs = c.args.self.now.now in
    room_second (encode (length xs)) (flat_map g.T.Coded.code xs) c.args.writer.now.at c.put.new.writer.at
    c.args.writer.now.out.now c.put.new.writer.out.now c.requires.room c.put.ensures.put

pub loop-item-preserved : goal.loop-item-preserved
loop-item-preserved g c =
    let first = c.put.new.writer in
    let here = c.loop-item.writer in
    let there = c.put-in-loop-item.new.writer in (
      completes_more g.T.Coded.code c.args.self.now.now first.out.now first.at
          (fits g (goal.at.loop-item-preserved g c).After-put) c.loop-item.item-index c.item-item.result
          here.out.now here.at c.loop-item-test.true c.item-item.is c.loop-item.invariant.0 there.out.now
          there.at
          c.put-in-loop-item.ensures.put,
      c.put-in-loop-item.ensures.same ∙ c.loop-item.invariant.1,
    )

pub returns : goal.returns
returns g c =
    let xs = c.args.self.now.now in
    let first = c.put.new.writer in
    let last = c.loop-item.writer in
    record {
      put = put_append (encode (length xs)) (flat_map g.T.Coded.code xs) c.args.writer.now.at first.at last.at
          c.args.writer.now.out.now first.out.now last.out.now c.requires.room c.put.ensures.put
          (completes_all g.T.Coded.code xs first.out.now first.at (fits g (goal.at.returns g c).After-put)
          c.loop-item.item-index last.out.now last.at c.loop-item-test.false c.loop-item.invariant.0);
      same = c.loop-item.invariant.1 ∙ c.put.ensures.same;
    }
