use Rattle.std.proofs.Common.{◌&&◌, refl, ap, inl, inr}
use Rattle.std.proofs.lemmas.Bool.{both_ways}
use Rattle.triples.specs.Meaning.{term}
use Rattle.feedtrace.specs.Failures.{refused}
use Rattle.feedtrace.proofs.Keeping.{table_telling}
use Rattle.feedtrace.specs.Layerings.{bare}
use Rattle.feedtrace.specs.Tables.{table_meaning}
use Rattle.feedtrace.specs.declared.outcome.Outcome.{Outcome}
use Rattle.feedtrace.proofs.lay.Layered.under_inverse.Goals as goal

pub returns-in-Ok : goal.returns-in-Ok
returns-in-Ok c =
    let made = c.in-Ok.ensures in
    rw (c.in-Left-Left.is, c.in-Left-Left.field-0-is)
    (inl (made.0, refl, (c.in-Ok.layer, (refl, table_telling _ _ made.2.1, made.1))))

pub returns-in-Err : goal.returns-in-Err
returns-in-Err c =
    let declined = c.in-Err.ensures in
    let top = (table_meaning c.in-Left-Left.table).top in
    rw (c.in-Left-Left.is, c.in-Left-Left.field-0-is, c.into.ensures, c.bare.ensures)
    (inr (
      (λ h. both_ways (term top c.args.property && term top c.args.inverse) declined.0.outside h),
      ap (refused {A = Outcome}) declined.0.rejection,
      ap bare (table_telling _ _ declined.1.1),
    ))
