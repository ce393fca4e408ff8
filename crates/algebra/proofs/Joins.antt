-- The join of a row with a basic graph pattern: its merges are the completions of the row that are in the
-- store, each as often. Each is there once, so that it is enough that the two have the same members. Assumes
-- nothing.
--     merges m ts r     the merges of r with the compatible solutions of ts
use Rattle.std.proofs.Common.{◌≡◌, ℕ, ◌≤◌, true, false, List, map, length, sym, ap, ◌∙◌, arith, ⊎_elim, subst}
use Rattle.std.proofs.Common.{inl, inr}
use Rattle.std.proofs.lemmas.Bool.{cases_Bool, cases_eq, cases_lt}
use Rattle.std.specs.List.{filter}
use Rattle.query.specs.declared.pattern.TriplePattern.{TriplePattern}
use Rattle.query.specs.Lawful.{mentions}
use Rattle.query.specs.Limits.{variables}
use Rattle.triples.specs.Meaning.{Meaning, Term}
use Rattle.filter.specs.Rows.{Row, none, value}
use Rattle.algebra.specs.Patterns.{blank, Valid, stored, open_variables, completions}
use Rattle.algebra.specs.Algebra.{bgp, compatible, either, merge}
use Rattle.algebra.specs.Answers.{same_row, times}
use Rattle.algebra.specs.Admissions.{Completes}
use Rattle.algebra.specs.Theorems.{AsOften}
use Rattle.algebra.proofs.Lists.{count_by-map, count_by-weaker}
use Rattle.algebra.proofs.Members.{Member, all_from_members, member-filter, member_from_filter, member-map}
use Rattle.algebra.proofs.Members.{member_from_map}
use Rattle.algebra.proofs.Ascents.{ascending-filter}
use Rattle.algebra.proofs.Rows.{equal_past, value-blank, length-blank, row_from_values, same_row_decides}
use Rattle.algebra.proofs.Rows.{equal_from_same_row, times_from_member, member_from_times}
use Rattle.algebra.proofs.Patterns.{stored_from_same, lent, length-lent, value-lent_own, value-lent_other}
use Rattle.algebra.proofs.Lexical.{Less, times-ascending}
use Rattle.algebra.proofs.Fitting.{ascending-stored, completes_from_stored, member-stored}
use Rattle.algebra.proofs.Merging.{agree-none, agree-with_none, agree-same, either-bound, either-none}
use Rattle.algebra.proofs.Merging.{either-second, agree_from_compatible, compatible_from_values, value-merge}
use Rattle.algebra.proofs.Merging.{length-merge}

-- the merges of the row with the solutions of the patterns that are compatible with it
abbrev pub merges : Meaning → List TriplePattern → Row → List Row
merges m ts r = map (merge r) (filter (compatible r) (bgp m ts))

-- lists that have the same rows, each once, have each as often
as_often_from_members : (xs ys : List Row) → ((r : Row) → times r xs ≤ 1) → ((r : Row) → times r ys ≤ 1)
    → ((r : Row) → Member r xs → Member r ys) → ((r : Row) → Member r ys → Member r xs) → AsOften xs ys
as_often_from_members xs ys one other to back r =
    ⊎_elim
    (λ some. omega (arith, some, one r, other r, times_from_member r ys (to r (member_from_times r xs some))))
    (λ none_there. ⊎_elim
    (λ some. omega (arith, none_there, times_from_member r xs (back r (member_from_times r ys some))))
    (λ neither. omega (arith, none_there, neither))
    (cases_lt 0 (times r ys)))
    (cases_lt 0 (times r xs))

module _ (m : Meaning) (ts : List TriplePattern) (r : Row) (valid : Valid m.top r) where
  -- what a merge is: a completion in the store

  module _ (u : Row) (c : Completes m.top ts blank u) (fits : compatible r u ≡ true) where
    long-merged : length (merge r u) ≡ variables
    long-merged = length-merge r u (valid.long ∙ sym (c.long ∙ length-blank)) ∙ valid.long

    -- the merge with a solution has its values for the variables of the patterns
    value-merge_own : (v : ℕ) → mentions v ts ≡ true → value (merge r u) v ≡ value u v
    value-merge_own v held =
        ⊎_elim
        (λ small. value-merge r u v
        ∙ either-second (value r v) (value u v) (agree_from_compatible r u fits v)
        (λ e. let t = c.given v small held (value-blank v) in omega (arith, t.positive, e)))
        (equal_past (merge r u) u variables long-merged (c.long ∙ length-blank) v)
        (cases_lt v variables)

    completes-merge : Completes m.top ts r (merge r u)
    completes-merge = record {
      long = long-merged ∙ sym valid.long;
      given = λ v small held free.
          subst (Term m.top) (sym (value-merge_own v held)) (c.given v small held (value-blank v));
      kept = λ v. ⊎_elim
          (equal_past (merge r u) r variables long-merged valid.long v)
          (⊎_elim
          (λ lacks. value-merge r u v ∙ ap (either (value r v)) (c.kept v (inr (inl lacks)) ∙ value-blank v)
          ∙ either-none (value r v))
          (λ some. value-merge r u v ∙ either-bound (value r v) (value u v) some));
    }

  pub stored_from_merges : (s : Row) → Member s (merges m ts r)
      → Member s (filter (stored m ts) (completions m.top ts r))
  stored_from_merges s h =
      let (u, there, is) = member_from_map (merge r) s (filter (compatible r) (bgp m ts)) h in
      let (solution, fits) = member_from_filter (compatible r) u (bgp m ts) there in
      let (c, held) = completes_from_stored m ts blank u length-blank solution in
      subst (λ t. Member t (filter (stored m ts) (completions m.top ts r))) (sym is)
      (member-stored m ts r (merge r u) (completes-merge u c fits)
      (stored_from_same m ts (merge r u) u (value-merge_own u c fits) held))

  -- of which solution a completion is the merge: the row with its values for the variables of the patterns

  module _ (s : Row) (done : Completes m.top ts r s) where
    abbrev solution : Row
    solution = lent ts blank s

    own : (v : ℕ) → mentions v ts ≡ true → value solution v ≡ value s v
    own = value-lent_own ts blank s (done.long ∙ valid.long ∙ sym length-blank)

    none_elsewhere : (v : ℕ) → mentions v ts ≡ false → value solution v ≡ none
    none_elsewhere v lacks = value-lent_other ts blank s v lacks ∙ value-blank v

    completes-solution : Completes m.top ts blank solution
    completes-solution = record {
      long = length-lent ts blank s;
      given = λ v small held _. subst (Term m.top) (sym (own v held))
          (⊎_elim (done.given v small held)
          (λ some. let same = done.kept v (inr (inr some)) in
          record { positive = omega (arith, same, some); small = omega (arith, same, valid.small v) })
          (cases_eq (value r v) none));
      kept = λ v. ⊎_elim
          (equal_past solution blank variables (length-lent ts blank s ∙ length-blank) length-blank v)
          (⊎_elim (value-lent_other ts blank s v) (λ some. absurd (some (value-blank v))));
    }

    compatible-solution : compatible r solution ≡ true
    compatible-solution =
        compatible_from_values r solution (valid.long ∙ sym (length-lent ts blank s ∙ length-blank))
        (λ v. ⊎_elim
        (λ free. agree-none (value r v) (value solution v) free)
        (λ some. ⊎_elim
        (λ held. agree-same (value r v) (value solution v) (sym (own v held ∙ done.kept v (inr (inr some)))))
        (λ lacks. agree-with_none (value r v) (value solution v) (none_elsewhere v lacks))
        (cases_Bool (mentions v ts)))
        (cases_eq (value r v) none))

    merge-solution : merge r solution ≡ s
    merge-solution =
        row_from_values (merge r solution) s
        (long-merged solution completes-solution compatible-solution ∙ sym (done.long ∙ valid.long))
        (λ v. ⊎_elim
        (λ held. value-merge_own solution completes-solution compatible-solution v held ∙ own v held)
        (λ lacks. (completes-merge solution completes-solution compatible-solution).kept v (inr (inl lacks))
        ∙ sym (done.kept v (inr (inl lacks))))
        (cases_Bool (mentions v ts)))

  merges_from_stored : (s : Row) → Member s (filter (stored m ts) (completions m.top ts r))
      → Member s (merges m ts r)
  merges_from_stored s h =
      let (done, held) = completes_from_stored m ts r s valid.long h in
      let u = lent ts blank s in
      subst (λ t. Member t (merges m ts r)) (merge-solution s done)
      (member-map (merge r) u (filter (compatible r) (bgp m ts))
      (member-filter (compatible r) u (bgp m ts) (compatible-solution s done)
      (member-stored m ts blank u (completes-solution s done) (stored_from_same m ts u s (own s done) held))))

  -- the solution is all that the merge is of
  solution_from_merge : (s t : Row) → Completes m.top ts blank t → compatible r t ≡ true → s ≡ merge r t
      → lent ts blank s ≡ t
  solution_from_merge s t c fits e =
      let long = ap length e ∙ long-merged t c fits ∙ sym length-blank in
      row_from_values (lent ts blank s) t (length-lent ts blank s ∙ sym c.long)
      (λ v. ⊎_elim
      (λ held. value-lent_own ts blank s long v held ∙ ap (λ u. value u v) e
      ∙ value-merge_own t c fits v held)
      (λ lacks. value-lent_other ts blank s v lacks ∙ sym (c.kept v (inr (inl lacks))))
      (cases_Bool (mentions v ts)))

  -- so a row is a merge once at the most
  merges-once : (s : Row) → times s (merges m ts r) ≤ 1
  merges-once s =
      let solutions = filter (compatible r) (bgp m ts) in
      let u = lent ts blank s in
      let same : (t : Row) → Member t solutions → same_row s (merge r t) ≡ true → same_row u t ≡ true =
      (λ t there is.
      let (found, fits) = member_from_filter (compatible r) t (bgp m ts) there in
      let (c, held) = completes_from_stored m ts blank t length-blank found in
      (same_row_decides u t).1 (solution_from_merge s t c fits (equal_from_same_row s (merge r t) is))) in
      let fewer = count_by-weaker (λ t. same_row s (merge r t)) (same_row u) solutions
      (all_from_members (λ t. same_row s (merge r t) ≡ true → same_row u t ≡ true) solutions same) in
      let most = times-ascending (open_variables ts blank) solutions
      (ascending-filter (Less (open_variables ts blank)) (compatible r) (bgp m ts)
      (ascending-stored m ts blank length-blank)) u in
      omega (arith, count_by-map (same_row s) (merge r) solutions, most, fewer)

  -- the merges of the row with the solutions of a basic pattern are its completions that are in the store
  pub as_often-merges : AsOften (merges m ts r) (filter (stored m ts) (completions m.top ts r))
  as_often-merges =
      as_often_from_members (merges m ts r) (filter (stored m ts) (completions m.top ts r)) merges-once
      (times-ascending (open_variables ts r) (filter (stored m ts) (completions m.top ts r))
      (ascending-stored m ts r valid.long))
      stored_from_merges merges_from_stored
