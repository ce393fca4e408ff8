use Rattle.std.proofs.Common.{refl, inl, inr}
use Rattle.std.proofs.lemmas.Result.{err_from_is_err_and}
use Rattle.feedtrace.proofs.lay.Layered.restore.Goals as goal

pub returns-in_err-restore : goal.returns-in_err-restore
returns-in_err-restore c =
    let why = err_from_is_err_and c.from_residual.result c.from_residual.ensures.1 in
    let told = c.in_err-restore.ensures in
    rw (c.in-Right.is, why.1, why.2) (
      c.restore.new.self,
      (
        refl,
        (
          told.same,
          inr (c.in_err-restore.field-0.0, (refl, told.answer)),
        ),
      ),
    )

pub returns : goal.returns
returns c =
    let told = c.in_ok-restore.ensures in
    rw (c.in-Right.is, c.count.ensures)
    (c.restore.new.self, (refl, (told.same, inl (refl, told.answer))))
