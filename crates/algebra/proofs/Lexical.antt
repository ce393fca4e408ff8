-- The lexicographic order of rows over a list of variables, and the lowest variable at which two rows differ.
-- Assumes nothing.
--     Less vs r s        at the first variable of vs at which they differ, r has the smaller value
--     Lowest p r s       at the lowest variable with p at which they differ, r has the smaller value
use Rattle.std.proofs.Common.{◌≡◌, ℕ, ◌<◌, Bool, true, ◌⊎◌, List, [], ◌∷◌, length, refl, sym, ◌∙◌, subst}
use Rattle.std.proofs.Common.{subst₂, ⊎_elim, inl, inr, arith, ◌≤◌}
use Rattle.std.proofs.lemmas.Bool.{cases_eq, cases_lt}
use Rattle.std.specs.List.{filter, AllByRecursion}
use Rattle.query.specs.Limits.{variables}
use Rattle.triples.specs.Meaning.{first_term}
use Rattle.filter.specs.Rows.{Row, value}
use Rattle.algebra.specs.Patterns.{with_value, all_variables, terms, assignments}
use Rattle.algebra.specs.Order.{Ascending}
use Rattle.algebra.specs.Answers.{same_row, times}
use Rattle.algebra.proofs.Lists.{all-weaker, all-every}
use Rattle.algebra.proofs.Members.{Member, has_from_member, member-filter, member_from_filter}
use Rattle.algebra.proofs.Ranges.{member-range}
use Rattle.algebra.proofs.Ascents.{ascending-filter, ascending-weaker, ascending-flat_map, ascending-range}
use Rattle.algebra.proofs.Ascents.{count_by-ascending}
use Rattle.algebra.proofs.Rows.{equal_from_same_row, value-with_same, equal_past}
use Rattle.algebra.proofs.Assignments.{Rising, Fills, other_from_below, rising-rest, all-assignments}

-- at the first variable of the list at which the rows differ, r has the smaller value; there is such a one
abbrev pub Less : List ℕ → Row → Row → Type 0
Less [] r s = ⊥
Less (v ∷ vs) r s = (value r v < value s v) ⊎ ((value r v ≡ value s v) × Less vs r s)

-- either each variable of the list has the same value in both, or they differ first at one of them
less-cases : (vs : List ℕ) (r s : Row)
    → ((v : ℕ) → Member v vs → value r v ≡ value s v) ⊎ (Less vs r s ⊎ Less vs s r)
less-cases [] r s = inl (λ v h. absurd h)
less-cases (v ∷ vs) r s =
    ⊎_elim
    (λ l. inr (inl (inl l)))
    (λ m. ⊎_elim
    (λ l. inr (inr (inl l)))
    (λ k. let e : value r v ≡ value s v = omega (arith, m, k) in
    ⊎_elim
    (λ same. inl (λ w. ⊎_elim (λ is. subst (λ x. value r x ≡ value s x) (sym is) e) (same w)))
    (⊎_elim (λ l. inr (inl (inr (e, l)))) (λ l. inr (inr (inr (sym e, l)))))
    (less-cases vs r s))
    (cases_lt (value s v) (value r v)))
    (cases_lt (value r v) (value s v))

-- the lowest variable that passes the test and at which the rows differ; r has the smaller value there
pub record Lowest (p : ℕ → Bool) (r s : Row) : Type 0 where
  pub variable : ℕ
  pub own : p variable ≡ true
  pub smaller : value r variable < value s variable
  pub lower : (w : ℕ) → p w ≡ true → w < variable → value r w ≡ value s w

-- the lowest variable at which two rows differ stays, where the values at such variables stay
pub lowest_from_kept : (p : ℕ → Bool) (r s t u : Row) → ((v : ℕ) → p v ≡ true → value t v ≡ value r v)
    → ((v : ℕ) → p v ≡ true → value u v ≡ value s v) → Lowest p r s → Lowest p t u
lowest_from_kept p r s t u one other l = record {
  variable = l.variable;
  own = l.own;
  smaller = subst₂ (λ x y. x < y) (sym (one l.variable l.own)) (sym (other l.variable l.own)) l.smaller;
  lower = λ w e k. one w e ∙ l.lower w e k ∙ sym (other w e);
}

-- rows that differ first at a variable of a list that ascends, and agree at those with p that are not in it,
-- differ at that one as the lowest with p
pub lowest_from_less : (p : ℕ → Bool) (r s : Row) (vs : List ℕ) → Ascending (λ x y. x < y) vs
    → ((v : ℕ) → Member v vs → p v ≡ true)
    → ((v : ℕ) → p v ≡ true → (Member v vs → ⊥) → value r v ≡ value s v) → Less vs r s → Lowest p r s
lowest_from_less p r s [] up own same h = absurd h
lowest_from_less p r s (v ∷ vs) up own same h =
    ⊎_elim
    (λ l. record {
      variable = v;
      own = own v (inl refl);
      smaller = l;
      lower = λ w t k. same w t (⊎_elim (λ e. omega (arith, e, k))
          (λ i. let later = has_from_member (λ x. v < x) w vs up.0 i in omega (arith, later, k)));
    })
    (λ k. lowest_from_less p r s vs up.1 (λ w i. own w (inr i))
    (λ w t out. ⊎_elim (λ e. subst (λ x. value r x ≡ value s x) (sym e) k.0) (λ ne. same w t (⊎_elim ne out))
    (cases_eq w v))
    k.1)
    h

-- rows agree at the variables with p, or one of them has the smaller value at the lowest at which they differ
pub lowest-cases : (p : ℕ → Bool) (r s : Row) → length r ≡ variables → length s ≡ variables
    → ((v : ℕ) → p v ≡ true → value r v ≡ value s v) ⊎ (Lowest p r s ⊎ Lowest p s r)
lowest-cases p r s one two =
    let vs = filter p all_variables in
    let up = ascending-filter (λ x y. x < y) p all_variables (ascending-range 0 variables) in
    let own : (v : ℕ) → Member v vs → p v ≡ true = (λ v i. (member_from_filter p v all_variables i).1) in
    let past = equal_past r s variables one two in
    let there : (v : ℕ) → p v ≡ true → v < variables → Member v vs =
    (λ v t l. member-filter p v all_variables t
    (member-range 0 variables v (omega arith) (omega (arith, l)))) in
    let outside : (v : ℕ) → p v ≡ true → (Member v vs → ⊥) → value r v ≡ value s v =
    (λ v t out. ⊎_elim (λ l. absurd (out (there v t l))) (past v) (cases_lt v variables)) in
    ⊎_elim
    (λ same. inl (λ v t. ⊎_elim (λ l. same v (there v t l)) (past v) (cases_lt v variables)))
    (⊎_elim
    (λ l. inr (inl (lowest_from_less p r s vs up own outside l)))
    (λ l. inr (inr (lowest_from_less p s r vs up own (λ v t out. sym (outside v t out)) l))))
    (less-cases vs r s)

-- no row is before itself

less-never : (vs : List ℕ) (r : Row) → Less vs r r → ⊥
less-never [] r h = h
less-never (v ∷ vs) r h = ⊎_elim (λ l. omega (arith, l)) (λ k. less-never vs r k.1) h

-- so of rows that ascend each is there once at the most
pub times-ascending : (vs : List ℕ) (rows : List Row) → Ascending (Less vs) rows → (r : Row)
    → times r rows ≤ 1
times-ascending vs rows up r =
    count_by-ascending (Less vs) same_row equal_from_same_row (less-never vs) r rows up

-- the values of the first variable ascend, and among rows with the same one the later variables decide
pub ascending-assignments : (top : ℕ) (vs : List ℕ) (r : Row) → Rising (length r) vs
    → Ascending (Less vs) (assignments top vs r)
ascending-assignments top [] r h = (tt, tt)
ascending-assignments top (v ∷ vs) r h =
    let into : ℕ → Row = (λ x. with_value r v x) in
    let gives : (x : ℕ) → AllByRecursion (λ s. value s v ≡ x) (assignments top vs (into x)) =
    (λ x. all-weaker (Fills top vs (into x)) (λ s. value s v ≡ x)
    (λ s f. f.kept v (other_from_below v vs h.1.0) ∙ value-with_same r v x h.0.0)
    (assignments top vs (into x)) (all-assignments top vs (into x) (rising-rest r v x vs h))) in
    ascending-flat_map (λ x. Unit {0}) (λ x y. x < y) (Less (v ∷ vs)) (λ x s. value s v ≡ x)
    (λ x. assignments top vs (into x)) (λ x _. gives x)
    (λ x y _ _ l b c p q. inl (subst₂ (λ i j. i < j) (sym p) (sym q) l))
    (λ x _. ascending-weaker (Less vs) (λ s. value s v ≡ x) (Less (v ∷ vs))
    (λ b c p q l. inr (p ∙ sym q, l)) (assignments top vs (into x)) (gives x)
    (ascending-assignments top vs (into x) (rising-rest r v x vs h)))
    (terms top) (all-every (λ x. Unit {0}) (λ x. tt) (terms top)) (ascending-range first_term top)
