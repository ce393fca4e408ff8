use Rattle.std.proofs.Common.{refl, inl, inr}
use Rattle.std.proofs.lemmas.Result.{err_from_is_err_and}
use Rattle.feedtrace.proofs.Keeping.{inverted_telling}
use Rattle.feedtrace.proofs.lay.Layered.withdraw.Goals as goal

pub returns-in_err-withdraw : goal.returns-in_err-withdraw
returns-in_err-withdraw c =
    let why = err_from_is_err_and c.from_residual.result c.from_residual.ensures.1 in
    let told = c.in_err-withdraw.ensures in
    rw (c.in-Right.is, why.1, why.2) (
      c.withdraw.new.self,
      (refl, (inverted_telling _ _ told.kept, inr (c.in_err-withdraw.field-0.0, (refl, told.answer)))),
    )

pub returns : goal.returns
returns c =
    let told = c.in_ok-withdraw.ensures in
    rw (c.in-Right.is, c.count.ensures)
    (c.withdraw.new.self, (refl, (inverted_telling _ _ told.kept, inl (refl, told.answer))))
