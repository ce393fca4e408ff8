use Rattle.std.proofs.Common.{◌≡◌, false, Ok, Err, Result, sym, ap, ◌∙◌, subst, rules}
use Rattle.std.proofs.lemmas.Bool.{false≢true}
use Rattle.std.specs.Result.{OnOk, is_err}
use Rattle.query.specs.Drafts.{Keeps}
use Rattle.query.proofs.keep.keep.Goals as goal
use Rattle.query.proofs.keep.keep.Goals.{in_default-via-in-None-1, in_default-via-in-Some+else-is_err}

-- what holds where a call went well, if it did
went_well : {T E : Type 0} (P : Type 0) (r : Result T E) → is_err r ≡ false → OnOk r P → P
went_well P (Ok x) e p = p
went_well P (Err x) e p = absurd (false≢true (sym e))

pub returns-in_default : goal.returns-in_default
returns-in_default g c next does d keeps = elim c.in_default.branch [
  | in_default-via-in-None-1 w ↦ search rules
  | in_default-via-in-Some+else-is_err w ↦
      let kept = subst (λ k. Keeps k d) w.in-Some.is keeps in
      rw w.kept-is
      (went_well _ w.step.result (sym w.if-is_err.ensures.value)
      (does w.in-Some.parts w.step.new.arg2 w.step.result (search rules))
      ∙ ap next kept)
]
