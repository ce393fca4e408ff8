-- The walk of one part from a row: of its answers those that pass a test are those of the listing, if no
-- value is left out that a completion in the store which passes the test has. Assumes nothing.
--     Protects m p admits     no value is left out that some completion which passes p has in the store
--     filter-walk_part        what passes p is answered as it is listed
--     answers-walk_part       under a lawful admission all is answered as it is listed
use Rattle.std.proofs.Common.{◌≡◌, ℕ, Bool, true, false, cond, ◌&&◌, List, [], ◌∷◌, length, refl, sym, ap}
use Rattle.std.proofs.Common.{◌∙◌, ◌<◌, ◌≢◌, inl, subst, ⊎_elim}
use Rattle.std.proofs.lemmas.Bool.{cases_Bool, cond-true, cond-false, and_parts, false_from_ne_true}
use Rattle.std.proofs.lemmas.Bool.{both_ways}
use Rattle.std.specs.List.{filter, flat_map}
use Rattle.query.specs.declared.pattern.TriplePattern.{TriplePattern}
use Rattle.query.specs.Limits.{variables}
use Rattle.triples.specs.Meaning.{Meaning, Term}
use Rattle.filter.specs.Rows.{Row, none, value}
use Rattle.query.specs.Lawful.{mentions}
use Rattle.algebra.specs.Patterns.{with_value, stored, open_variables, terms, assignments, completions}
use Rattle.algebra.specs.Admissions.{Admission, Completes, Lawful}
use Rattle.algebra.specs.Walk.{Mark, try, answers, answer_if, admitted, walk_through, walk_part}
use Rattle.algebra.specs.Theorems.{LowestOpen, WalkTakesTheLowest}
use Rattle.algebra.proofs.Lists.{all-weaker, all-filter, flat_map-same, flat_map-filter, filter-flat_map}
use Rattle.algebra.proofs.Lists.{filter-filter, filter-none, filter-true}
use Rattle.algebra.proofs.Rows.{length-with_value}
use Rattle.algebra.proofs.Assignments.{Rising, all-terms}
use Rattle.algebra.proofs.Members.{Member, has_from_member}
use Rattle.algebra.proofs.Patterns.{all_from_stored}
use Rattle.algebra.proofs.Completions.{open_variables-rest, all-completions, member-open, open_from_member}
use Rattle.algebra.proofs.Completions.{rising-open}
use Rattle.algebra.proofs.Listing.{fitting}
use Rattle.algebra.proofs.Marks.{answers-flat_map, answers-answer_if}

-- a term with which the row has a completion that passes p, and is in the store with all the part's triples,
-- is admitted
abbrev Protects : Meaning → (Row → Bool) → Admission → Type 0
Protects m p admits = (ts : List TriplePattern) (r : Row) (v x : ℕ) (s : Row) → Term m.top x
    → Completes m.top ts (with_value r v x) s → stored m ts s ≡ true → p s ≡ true → admits ts r v x ≡ true

-- the law is this with a test that is always true: a lawful admission protects every completion
protects_from_lawful : (m : Meaning) (admits : Admission) → Lawful m admits → Protects m (λ _. true) admits
protects_from_lawful m admits law ts r v x s term completes has _ =
    law.keeps ts r v x s term completes (all_from_stored m ts s has)

module _ (m : Meaning) (p : Row → Bool) (admits : Admission) (law : Protects m p admits) (test : Row → Bool)
    (ts : List TriplePattern) where
  -- the row fits the part
  abbrev fits : Row → Bool
  fits s = stored m ts s && test s

  -- a value that is not admitted has no completion that fits and passes p
  filter-unadmitted : (r : Row) (v x : ℕ) → length r ≡ variables → Term m.top x → admits ts r v x ≡ false
      → filter p (filter fits (completions m.top ts (with_value r v x))) ≡ []
  filter-unadmitted r v x long term left =
      let rows = completions m.top ts (with_value r v x) in
      let complete = all-completions m.top ts (with_value r v x) (length-with_value r v x ∙ long) in
      filter-filter p fits rows
      ∙ filter-none (λ s. fits s && p s) rows
      (all-weaker (Completes m.top ts (with_value r v x)) (λ s. (fits s && p s) ≡ false)
      (λ s c. false_from_ne_true (fits s && p s)
      (λ t. let both = and_parts (fits s) (p s) t in
      let has = and_parts (stored m ts s) (test s) both.0 in
      both_ways (admits ts r v x) left (law ts r v x s term c has.0 both.1)))
      rows complete)

  -- an admitted value is walked on from, and one that is not admitted has no completion to lose
  filter-walk_through : (vs : List ℕ) (r : Row) → length r ≡ variables → open_variables ts r ≡ vs
      → filter p (answers (walk_through m admits ts fits vs r))
      ≡ filter p (filter fits (assignments m.top vs r))
  filter-walk_through [] r long e = ap (filter p) (answers-answer_if (fits r) r)
  filter-walk_through (v ∷ vs) r long e =
      let after = λ (x : ℕ). walk_through m admits ts fits vs (with_value r v x) in
      let rows = λ (x : ℕ). assignments m.top vs (with_value r v x) in
      let each : (x : ℕ) → Term m.top x
      → cond (admits ts r v x) (filter p (answers (after x))) [] ≡ filter p (filter fits (rows x)) =
      λ x term.
      let rest = open_variables-rest ts r v x vs long e term.positive in
      ⊎_elim
      (λ t. cond-true (admits ts r v x) (filter p (answers (after x))) [] t
      ∙ filter-walk_through vs (with_value r v x) (length-with_value r v x ∙ long) rest)
      (λ n. cond-false (admits ts r v x) (filter p (answers (after x))) [] n
      ∙ sym (subst (λ ws. filter p (filter fits (assignments m.top ws (with_value r v x))) ≡ []) rest
      (filter-unadmitted r v x long term n)))
      (cases_Bool (admits ts r v x)) in
      ap (filter p) (answers-flat_map (λ x. try v x ∷ after x) (admitted m admits ts r v))
      ∙ filter-flat_map p (λ x. answers (after x)) (admitted m admits ts r v)
      ∙ flat_map-filter (λ x. filter p (answers (after x))) (admits ts r v) (terms m.top)
      ∙ flat_map-same (λ x. cond (admits ts r v x) (filter p (answers (after x))) [])
      (λ x. filter p (filter fits (rows x))) (terms m.top)
      (all-weaker (Term m.top)
      (λ x. cond (admits ts r v x) (filter p (answers (after x))) [] ≡ filter p (filter fits (rows x)))
      each (terms m.top) (all-terms m.top))
      ∙ sym (ap (filter p) (filter-flat_map fits rows (terms m.top))
      ∙ filter-flat_map p (λ x. filter fits (rows x)) (terms m.top))

  -- of the answers and of the completions that fit, the same pass p
  filter-walk_part : (r : Row) → length r ≡ variables
      → filter p (answers (walk_part m admits test ts r)) ≡ filter p (fitting m test ts r)
  filter-walk_part r long =
      filter-walk_through (open_variables ts r) r long refl
      ∙ ap (filter p) (sym (filter-filter test (stored m ts) (completions m.top ts r)))

-- the part's walk tries the first variable without a value, and goes on as the part's walk
walk_part-first : (m : Meaning) (admits : Admission) (test : Row → Bool) (ts : List TriplePattern) (r : Row)
    (v : ℕ) (vs : List ℕ) → length r ≡ variables → open_variables ts r ≡ v ∷ vs
    → walk_part m admits test ts r
    ≡ flat_map (λ x. try v x ∷ walk_part m admits test ts (with_value r v x)) (admitted m admits ts r v)
walk_part-first m admits test ts r v vs long e =
    let through = walk_through m admits ts (λ s. stored m ts s && test s) in
    let part = walk_part m admits test ts in
    ap (λ ws. through ws r) e
    ∙ flat_map-same (λ x. try v x ∷ through vs (with_value r v x)) (λ x. try v x ∷ part (with_value r v x))
    (admitted m admits ts r v)
    (all-weaker (Term m.top)
    (λ x. ◌≡◌ {A = List (Mark Row)} (try v x ∷ through vs (with_value r v x))
    (try v x ∷ part (with_value r v x)))
    (λ x term. ap (λ ws. try v x ∷ through ws (with_value r v x))
    (sym (open_variables-rest ts r v x vs long e term.positive)))
    (admitted m admits ts r v) (all-filter (Term m.top) (admits ts r v) (terms m.top) (all-terms m.top)))

-- the first of the open variables is the lowest
first_from_lowest : (ts : List TriplePattern) (r : Row) (v : ℕ) (xs : List ℕ) → open_variables ts r ≡ xs
    → length r ≡ variables → LowestOpen ts r v → (vs : List ℕ) × (open_variables ts r ≡ v ∷ vs)
first_from_lowest ts r v [] e long low =
    absurd (subst (Member v) e
    (member-open ts r v (record { inside = low.inside; held = low.held; valueless = low.valueless })))
first_from_lowest ts r v (w ∷ ws) e long low =
    let there = subst (Member v) e
    (member-open ts r v (record { inside = low.inside; held = low.held; valueless = low.valueless })) in
    let first = open_from_member ts r w (subst (Member w) (sym e) (inl refl)) in
    let rising = subst (Rising (length r)) e (rising-open ts r long) in
    ⊎_elim
    (λ is. (ws, e ∙ ap (λ x. x ∷ ws) (sym is)))
    (λ later. absurd (low.first w (has_from_member (λ x. w < x) v ws rising.1.0 later) first.held
    first.valueless))
    there

-- with no variable open, the row is an answer or the walk is empty
walk_part-done : (m : Meaning) (admits : Admission) (test : Row → Bool) (ts : List TriplePattern) (r : Row)
    (xs : List ℕ) → open_variables ts r ≡ xs
    → ((v : ℕ) → v < variables → mentions v ts ≡ true → value r v ≢ none)
    → walk_part m admits test ts r ≡ answer_if (stored m ts r && test r) r
walk_part-done m admits test ts r [] e none-open =
    ap (λ ws. walk_through m admits ts (λ s. stored m ts s && test s) ws r) e
walk_part-done m admits test ts r (w ∷ ws) e none-open =
    let first = open_from_member ts r w (subst (Member w) (sym e) (inl refl)) in
    absurd (none-open w first.inside first.held first.valueless)

-- the part's walk takes the lowest variable without a value
pub walk_takes_the_lowest : WalkTakesTheLowest
walk_takes_the_lowest m admits test ts r long = record {
  more = λ v low. let (vs, e) = first_from_lowest ts r v (open_variables ts r) refl long low in
      walk_part-first m admits test ts r v vs long e;
  done = walk_part-done m admits test ts r (open_variables ts r) refl;
}

-- under a lawful admission the walk of a part answers the completions that it fits
pub answers-walk_part : (m : Meaning) (admits : Admission) → Lawful m admits → (test : Row → Bool)
    (ts : List TriplePattern) (r : Row) → length r ≡ variables
    → answers (walk_part m admits test ts r) ≡ fitting m test ts r
answers-walk_part m admits law test ts r long =
    sym (filter-true (answers (walk_part m admits test ts r)))
    ∙ filter-walk_part m (λ _. true) admits (protects_from_lawful m admits law) test ts r long
    ∙ filter-true (fitting m test ts r)
