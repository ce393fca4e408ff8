use Rattle.std.proofs.Common.{rules}
use Rattle.feedtrace.specs.Laying.{Changed, InverseOn, WithdrewOn, RestoredOn}
use Rattle.feedtrace.proofs.Tasks.{Comes-from_map}
use Rattle.feedtrace.proofs.session.Session.carry_out.Goals as goal

pub returns-in-Inverse : goal.returns-in-Inverse
returns-in-Inverse c =
    rw c.in-Inverse.is (Comes-from_map (Changed (InverseOn c.in-Inverse.property c.in-Inverse.inverse))
    c.args.self.now c.lay_inverse.new.self c.lay_inverse.result c.map.result _ _
    (λ o a. search rules) (λ e b. search rules) c.map.ensures.cases
    c.lay_inverse.ensures)

pub returns-in-Withdraw : goal.returns-in-Withdraw
returns-in-Withdraw c =
    rw c.in-Withdraw.is (Comes-from_map (Changed (WithdrewOn c.in-Withdraw.triple)) c.args.self.now
    c.withdraw.new.self c.withdraw.result c.map-in-Withdraw.result _ _
    (λ o a. search rules) (λ e b. search rules) c.map-in-Withdraw.ensures.cases c.withdraw.ensures)

pub returns-in-Restore : goal.returns-in-Restore
returns-in-Restore c =
    rw c.in-Restore.is (Comes-from_map (Changed (RestoredOn c.in-Restore.triple)) c.args.self.now
    c.restore.new.self c.restore.result c.map-in-Restore.result _ _
    (λ o a. search rules) (λ e b. search rules) c.map-in-Restore.ensures.cases c.restore.ensures)
