-- A triple that passed the first two checks is withdrawn where there is room.
use Rattle.std.proofs.Common.{sym, ◌∙◌, rules}
use Rattle.layers.specs.Members.{members}
use Rattle.layers.proofs.Withdrawals.{withdraws_room}
use Rattle.layers.proofs.withdrawn.Withdrawn.withdraw.Goals as goal

pub returns-clause-answer : goal.returns-clause-answer
returns-clause-answer g c =
    withdraws_room (g.S.Store.meaning c.args.self.now.below) (members c.args.self.now.gone) c.args.triple
    c.map_err.result (members c.add.new.self) (sym c.if-has.ensures) (sym c.if-not-is_held.ensures.answer)
    (c.map_err.ensures.variant ∙ c.add.ensures.room)
    (search rules)
    (rw c.map_err.ensures.variant c.add.ensures.list)
