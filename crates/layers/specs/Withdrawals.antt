-- What a store stands for when triples are withdrawn from it, and what withdrawing and restoring one answer.
-- Assumes nothing.
use Rattle.std.specs.Prelude.{◌≡◌, Bool, false, cond, not, ◌&&◌, List, [], ◌∷◌, ◌++◌, length, is_ok, Some}
use Rattle.std.specs.Prelude.{None, Ok, Err, Option, Result, nat_lt}
use Rattle.refusal.specs.declared.refusal.Refusal.{Refusal}
use Rattle.refusal.specs.declared.refusal.Refusal.TheVariants.{AlreadyWithdrawn, NotStored, WithdrawnFull}
use Rattle.refusal.specs.declared.refusal.Refusal.TheVariants.{NotWithdrawn}
use Rattle.refusal.specs.declared.rejection.Rejection.{Rejection}
use Rattle.triples.specs.declared.triple.Triple.{Triple}
use Rattle.triples.specs.Meaning.{Meaning, among}
use Rattle.triples.specs.Order.{same}
use Rattle.layers.specs.Sets.{most_withdrawn, Removed}

-- the triples of m that are not in the list gone, under the same top
abbrev pub without : Meaning → List Triple → Meaning
without m gone = record { top = m.top; has = λ t. m.has t && not (among gone t) }

-- m in all but t, which is in it exactly if b holds
abbrev pub amended : Meaning → Triple → Bool → Meaning
amended m t b = record { top = m.top; has = λ u. cond (same t u) b (m.has u) }

-- no refusal is an Ok, a refusal an Err that names no place
abbrev pub outcome : Option Refusal → Result (Unit {0}) Rejection
outcome None = Ok tt
outcome (Some refusal) = Err (record { refusal = refusal; place = 0 })

-- why t cannot be withdrawn where m is below and gone is withdrawn already, by the first rule that t breaks
abbrev pub withdraw_refusal : Meaning → List Triple → Triple → Option Refusal
withdraw_refusal m gone t =
    cond (among gone t) (Some AlreadyWithdrawn)
    (cond (m.has t) (cond (nat_lt (length gone) most_withdrawn) None (Some WithdrawnFull)) (Some NotStored))

-- where m is below and gone is withdrawn, a call to withdraw t answers r and leaves later withdrawn
pub record Withdraws (m : Meaning) (gone : List Triple) (t : Triple) (r : Result (Unit {0}) Rejection)
    (later : List Triple) : Type 0 where
  -- the first rule broken, or Ok
  pub answer : r ≡ outcome (withdraw_refusal m gone t)
  -- Ok adds t, a refusal leaves the list as it was
  pub list : later ≡ cond (is_ok r) (gone ++ t ∷ []) gone
  -- Ok takes t and nothing else out of the meaning, a refusal leaves it as it was
  pub meaning : without m later ≡ cond (is_ok r) (amended (without m gone) t false) (without m gone)

-- why t cannot be restored where gone is withdrawn
abbrev pub restore_refusal : List Triple → Triple → Option Refusal
restore_refusal gone t = cond (among gone t) None (Some NotWithdrawn)

-- where m is below and gone is withdrawn, a call to restore t answers r and leaves later withdrawn
pub record Restores (m : Meaning) (gone : List Triple) (t : Triple) (r : Result (Unit {0}) Rejection)
    (later : List Triple) : Type 0 where
  -- the rule broken, or Ok
  pub answer : r ≡ outcome (restore_refusal gone t)
  -- Ok takes t and nothing else from the list, one triple in all; a refusal leaves the list as it was
  pub list : Removed gone t (is_ok r) later
  -- Ok leaves t as it stands in m and all else as it was, a refusal leaves the meaning as it was
  pub meaning : without m later ≡ cond (is_ok r) (amended (without m gone) t (m.has t)) (without m gone)
