-- The variables that patterns leave open in a row, and the rows that complete it. Assumes nothing.
--     Open ts r v     v is in the patterns, and has no value in r
use Rattle.std.proofs.Common.{◌≡◌, ℕ, ◌+◌, ◌<◌, ◌≤◌, Bool, true, not, ◌&&◌, List, ◌∷◌, length, eqb, refl, sym}
use Rattle.std.proofs.Common.{ap, subst, ⊎_elim, arith, inl, inr}
use Rattle.std.proofs.lemmas.Bool.{cases_Bool, cases_eq, cases_lt, and_parts, and_from, and_right, not-true}
use Rattle.std.proofs.lemmas.Bool.{both_ways}
use Rattle.std.specs.List.{AllByRecursion}
use Rattle.query.specs.declared.pattern.TriplePattern.{TriplePattern}
use Rattle.query.specs.Lawful.{mentions}
use Rattle.query.specs.Limits.{variables}
use Rattle.filter.specs.Rows.{Row, none, value, has_value}
use Rattle.algebra.specs.Patterns.{with_value, all_variables, open_variables, completions}
use Rattle.algebra.specs.Answers.{times}
use Rattle.algebra.specs.Admissions.{Completes}
use Rattle.algebra.specs.Order.{Ascending}
use Rattle.algebra.proofs.Lists.{all-weaker, all-filter}
use Rattle.algebra.proofs.Members.{Member, has_from_member, member-filter, member_from_filter}
use Rattle.algebra.proofs.Ranges.{all-range, member-range}
use Rattle.algebra.proofs.Ascents.{ascending-range, ascending-filter, filter-rest}
use Rattle.algebra.proofs.Rows.{value-with_same, value-with_other, none_from_has_value, has_value-none}
use Rattle.algebra.proofs.Rows.{has_value-some, times_from_member}
use Rattle.algebra.proofs.Assignments.{Rising, Fills, all-assignments, member-assignments}
use Rattle.algebra.proofs.Lexical.{Less, times-ascending, ascending-assignments}

-- open_variables

-- what is known of an open variable
pub record Open (ts : List TriplePattern) (r : Row) (v : ℕ) : Type 0 where
  pub inside : v < variables
  pub held : mentions v ts ≡ true
  pub valueless : value r v ≡ none

module _ (ts : List TriplePattern) (r : Row) where
  -- the variable is in the patterns, and has no value
  abbrev pub lacking : ℕ → Bool
  lacking v = mentions v ts && not (has_value r v)

  pub member-open : (v : ℕ) → Open ts r v → Member v (open_variables ts r)
  member-open v o =
      member-filter lacking v all_variables
      (and_from (mentions v ts) (not (has_value r v)) o.held (ap not (has_value-none r v o.valueless)))
      (member-range 0 variables v (omega arith) (omega (arith, o.inside)))

  pub open_from_member : (v : ℕ) → Member v (open_variables ts r) → Open ts r v
  open_from_member v h =
      let (there, passes) = member_from_filter lacking v all_variables h in
      let (held, free) = and_parts (mentions v ts) (not (has_value r v)) passes in
      let bound = has_from_member (λ x. (0 ≤ x) × (x < 0 + variables)) v all_variables (all-range 0 variables)
      there in
      record {
        inside = omega (arith, bound.1);
        held = held;
        valueless = none_from_has_value r v (not-true (has_value r v) free);
      }

  pub rising-open : length r ≡ variables → Rising (length r) (open_variables ts r)
  rising-open long = (
    all-filter (λ v. v < length r) lacking all_variables
        (all-weaker (λ x. (0 ≤ x) × (x < 0 + variables)) (λ v. v < length r)
        (λ v h. omega (arith, h.1, long)) all_variables (all-range 0 variables)),
    ascending-filter (λ v w. v < w) lacking all_variables (ascending-range 0 variables),
  )

-- with a value for the first open variable, the others are open
pub open_variables-rest : (ts : List TriplePattern) (r : Row) (v x : ℕ) (vs : List ℕ) → length r ≡ variables
    → open_variables ts r ≡ v ∷ vs → 0 < x → open_variables ts (with_value r v x) ≡ vs
open_variables-rest ts r v x vs long e some =
    let first = open_from_member ts r v (subst (Member v) (sym e) (inl refl)) in
    let own = value-with_same r v x (omega (arith, long, first.inside)) in
    filter-rest (lacking ts r) (lacking ts (with_value r v x)) all_variables v vs
    (ascending-range 0 variables) e
    (λ w ne. ap (λ y. mentions w ts && not (not (eqb y none))) (sym (value-with_other r v x w ne)))
    (and_right (mentions v ts) (not (has_value (with_value r v x) v))
    (ap not (has_value-some (with_value r v x) v (omega (arith, own, some)))))

-- Completes

module _ (top : ℕ) (ts : List TriplePattern) (r s : Row) where
  -- what completes a row keeps what is not open in it
  pub kept_from_completes : Completes top ts r s → (v : ℕ) → (Open ts r v → ⊥) → value s v ≡ value r v
  kept_from_completes c v shut =
      ⊎_elim
      (λ small. ⊎_elim
      (λ held. ⊎_elim
      (λ free. absurd (shut (record { inside = small; held = held; valueless = free })))
      (λ some. c.kept v (inr (inr some)))
      (cases_eq (value r v) none))
      (λ lacks. c.kept v (inr (inl lacks)))
      (cases_Bool (mentions v ts)))
      (λ past. c.kept v (inl past))
      (cases_lt v variables)

  fills_from_completes : Completes top ts r s → Fills top (open_variables ts r) r s
  fills_from_completes c = record {
    long = c.long;
    given = λ v h. let o = open_from_member ts r v h in c.given v o.inside o.held o.valueless;
    kept = λ v h. kept_from_completes c v (λ o. h (member-open ts r v o));
  }

  completes_from_fills : Fills top (open_variables ts r) r s → Completes top ts r s
  completes_from_fills f = record {
    long = f.long;
    given = λ v small held free.
        f.given v (member-open ts r v (record { inside = small; held = held; valueless = free }));
    kept = λ v h. f.kept v (λ k. let o = open_from_member ts r v k in
        ⊎_elim (λ past. omega (arith, past, o.inside))
        (⊎_elim (λ lacks. both_ways (mentions v ts) lacks o.held) (λ some. some o.valueless)) h);
  }

  -- every row that completes another is one of its completions
  pub member-completions : Completes top ts r s → Member s (completions top ts r)
  member-completions c = member-assignments top (open_variables ts r) r s (fills_from_completes c)

-- completions

module _ (top : ℕ) (ts : List TriplePattern) (r : Row) (long : length r ≡ variables) where
  -- every completion of a row completes it
  pub all-completions : AllByRecursion (Completes top ts r) (completions top ts r)
  all-completions =
      all-weaker (Fills top (open_variables ts r) r) (Completes top ts r) (completes_from_fills top ts r)
      (completions top ts r) (all-assignments top (open_variables ts r) r (rising-open ts r long))

  pub ascending-completions : Ascending (Less (open_variables ts r)) (completions top ts r)
  ascending-completions = ascending-assignments top (open_variables ts r) r (rising-open ts r long)

  -- a row that completes another is among its completions once
  pub completions-once : (s : Row) → Completes top ts r s → times s (completions top ts r) ≡ 1
  completions-once s c =
      let rows = completions top ts r in
      let some = times_from_member s rows (member-completions top ts r s c) in
      let most = times-ascending (open_variables ts r) rows ascending-completions s in
      omega (arith, some, most)
