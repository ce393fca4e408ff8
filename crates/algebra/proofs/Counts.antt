-- The algebra counts every answer as the listing does. Lists of which only counts matter are compared by
-- their totals, whatever number each row counts with. Assumes nothing.
use Rattle.std.proofs.Common.{◌≡◌, ℕ, ◌+◌, Bool, true, false, cond, not, ◌&&◌, ◌||◌, List, [], ◌∷◌, map}
use Rattle.std.proofs.Common.{map-id, refl, sym, ap, ap₂, ◌∙◌, arith, ⊎_elim}
use Rattle.std.proofs.lemmas.Bool.{cases_Bool, cases_lt}
use Rattle.std.proofs.lemmas.List.Concat.{flat_map_single}
use Rattle.std.specs.List.{filter, flat_map, list_all, AllByRecursion}
use Rattle.catalogue.specs.Entries.{Entry}
use Rattle.query.specs.declared.pattern.TriplePattern.{TriplePattern}
use Rattle.query.specs.Parts.{Part, Group}
use Rattle.query.specs.Lawful.{total}
use Rattle.triples.specs.Meaning.{Meaning}
use Rattle.filter.specs.Rows.{Row, value}
use Rattle.filter.specs.Filters.{passes}
use Rattle.algebra.specs.Patterns.{blank, Valid, stored, completions}
use Rattle.algebra.specs.Algebra.{bgp, compatible, merge, join, diff, left_join}
use Rattle.algebra.specs.Answers.{left_joins, solutions, Answer, numbered, answers_from, answers_to}
use Rattle.algebra.specs.Answers.{same_answer, times_answered}
use Rattle.algebra.specs.Admissions.{Completes}
use Rattle.algebra.proofs.Lists.{all-append, all-weaker, all-filter, all-flat_map, count_by-total}
use Rattle.algebra.proofs.Lists.{flat_map-flat_map, filter-same, total-append, total-flat_map, total-map}
use Rattle.algebra.proofs.Lists.{total-filter, total-like, total-plus, filter-yes, filter-no, total-same}
use Rattle.algebra.proofs.Members.{all_from_members}
use Rattle.algebra.proofs.Rows.{value-blank, length-blank, answer_of}
use Rattle.algebra.proofs.Completions.{kept_from_completes, all-completions}
use Rattle.algebra.proofs.Listing.{fitting, or_itself, extended, rows_of, answers_of_from, answers_of}
use Rattle.algebra.proofs.Fitting.{completes_from_stored}
use Rattle.algebra.proofs.Cardinalities.{total-alike, list_all-alike}
use Rattle.algebra.proofs.Joins.{merges, as_often-merges, stored_from_merges}

-- Valid

valid-blank : (top : ℕ) → Valid top blank
valid-blank top = record { long = length-blank; small = λ v. omega (arith, value-blank v) }

-- a value over the top would be of an open variable, to which a term is given
valid_from_completes : (top : ℕ) (ts : List TriplePattern) (r s : Row) → Valid top r → Completes top ts r s
    → Valid top s
valid_from_completes top ts r s h c = record {
  long = c.long ∙ h.long;
  small = λ v. ⊎_elim
      (λ high. let same = kept_from_completes top ts r s c v
      (λ o. let t = c.given v o.inside o.held o.valueless in omega (arith, high, t.small)) in
      absurd (omega (arith, high, same, h.small v)))
      (λ low. low)
      (cases_lt top (value s v));
}

all-valid : (top : ℕ) (ts : List TriplePattern) (r : Row) → Valid top r
    → AllByRecursion (Valid top) (completions top ts r)
all-valid top ts r h =
    all-weaker (Completes top ts r) (Valid top) (λ s. valid_from_completes top ts r s h)
    (completions top ts r) (all-completions top ts r h.long)

-- left_join

-- nothing is in the list
abbrev vacant : {A : Type 0} → List A → Bool
vacant [] = true
vacant (x ∷ xs) = false

-- all fail the test exactly if nothing passes it
list_all-vacant : (test : Row → Bool) (rows : List Row)
    → list_all (λ s. not (test s)) rows ≡ vacant (filter test rows)
list_all-vacant test [] = refl
list_all-vacant test (s ∷ rows) =
    let later = list_all (λ u. not (test u)) rows in
    ⊎_elim
    (λ t. ap (λ b. not b && later) t ∙ sym (ap vacant (filter-yes test s rows t)))
    (λ f. ap (λ b. not b && later) f ∙ list_all-vacant test rows ∙ sym (ap vacant (filter-no test s rows f)))
    (cases_Bool (test s))

-- a row has no partner whose merge passes the test exactly if all its merges fail it
list_all-partners : (test : Row → Bool) (r : Row) (right : List Row)
    → list_all (λ s. not (compatible r s) || not (test (merge r s))) right
    ≡ list_all (λ s. not (test s)) (map (merge r) (filter (compatible r) right))
list_all-partners test r [] = refl
list_all-partners test r (s ∷ right) =
    let later = list_all (λ t. not (compatible r t) || not (test (merge r t))) right in
    let fails = not (test (merge r s)) in
    let all = λ (rows : List Row). list_all (λ t. not (test t)) (map (merge r) rows) in
    ⊎_elim
    (λ c. ap (λ b. (not b || fails) && later) c ∙ ap (λ b. fails && b) (list_all-partners test r right)
    ∙ sym (ap all (filter-yes (compatible r) s right c)))
    (λ f. ap (λ b. (not b || fails) && later) f ∙ list_all-partners test r right
    ∙ sym (ap all (filter-no (compatible r) s right f)))
    (cases_Bool (compatible r s))

-- the rows, and besides them r where there are none
total-or_itself : (w : Row → ℕ) (r : Row) (rows : List Row)
    → total w rows + cond (vacant rows) (w r) 0 ≡ total w (or_itself r rows)
total-or_itself w r [] = omega arith
total-or_itself w r (s ∷ rows) = omega arith

-- the two parts of a left join, put together row by row
total-left : (w : Row → ℕ) (fits : Row → List Row) (left : List Row)
    → total w (flat_map fits left) + total w (filter (λ r. vacant (fits r)) left)
    ≡ total w (flat_map (λ r. or_itself r (fits r)) left)
total-left w fits left =
    omega (
      arith,
      total-flat_map w fits left,
      total-filter w (λ r. vacant (fits r)) left,
      total-plus (λ r. total w (fits r)) (λ r. cond (vacant (fits r)) (w r) 0) left,
    )
    ∙ total-like _ _ (λ r. total-or_itself w r (fits r)) left
    ∙ sym (total-flat_map w (λ r. or_itself r (fits r)) left)

module _ (m : Meaning) (test : Row → Bool) (ts : List TriplePattern) (left : List Row)
    (valid : AllByRecursion (Valid m.top) left) where
  -- the completions in the store, which are as often among the merges
  abbrev found : Row → List Row
  found r = filter (stored m ts) (completions m.top ts r)

  -- the merges that pass the test count as what the rows' completions fit
  total-filter_join : (w : Row → ℕ)
      → total w (filter test (join left (bgp m ts))) ≡ total w (flat_map (fitting m test ts) left)
  total-filter_join w =
      let passing = λ (r : Row). cond (test r) (w r) 0 in
      total-filter w test (join left (bgp m ts))
      ∙ total-flat_map passing (merges m ts) left
      ∙ total-same _ _ left
      (all-weaker _ _ (λ r h. total-alike passing (merges m ts r) (found r) (as_often-merges m ts r h)
      ∙ sym (total-filter w test (found r))) left valid)
      ∙ sym (total-flat_map w (fitting m test ts) left)

  diff-bgp : diff test left (bgp m ts) ≡ filter (λ r. vacant (fitting m test ts r)) left
  diff-bgp =
      filter-same _ _ left
      (all-weaker _ _ (λ r h. list_all-partners test r (bgp m ts)
      ∙ list_all-alike (λ s. not (test s)) (merges m ts r) (found r) (as_often-merges m ts r h)
      ∙ list_all-vacant test (found r)) left valid)

  -- a left join with a basic pattern counts as each row's fits, or where it has none the row itself
  total-left_join : (w : Row → ℕ)
      → total w (left_join test left (bgp m ts))
      ≡ total w (flat_map (λ r. or_itself r (fitting m test ts r)) left)
  total-left_join w =
      total-append w (filter test (join left (bgp m ts))) (diff test left (bgp m ts))
      ∙ ap₂ (λ n k. n + k) (total-filter_join w) (ap (total w) diff-bgp)
      ∙ total-left w (fitting m test ts) left

  all-valid_left_join : AllByRecursion (Valid m.top) (left_join test left (bgp m ts))
  all-valid_left_join =
      all-append (Valid m.top) (filter test (join left (bgp m ts))) (diff test left (bgp m ts))
      (all-filter (Valid m.top) test (join left (bgp m ts))
      (all-flat_map (Valid m.top) (merges m ts) left
      (all-weaker _ _ (λ r h. all_from_members (Valid m.top) (merges m ts r)
      (λ s i. valid_from_completes m.top ts r s h
      (completes_from_stored m ts r s h.long (stored_from_merges m ts r h s i)).0)) left valid)))
      (all-filter (Valid m.top) _ left valid)

-- left_joins, solutions, answers_to

module _ (m : Meaning) (e : ℕ → Entry) where
  -- left joins with the blocks count as what the blocks make of each row
  total-left_joins : (bs : List Part) (w : Row → ℕ) (left : List Row) → AllByRecursion (Valid m.top) left
      → total w (left_joins m e left bs) ≡ total w (flat_map (extended m e bs) left)
  total-left_joins [] w left valid =
      ap (total w) (sym (flat_map_single (λ r. r) left ∙ map-id left))
  total-left_joins (b ∷ bs) w left valid =
      let test = passes e b.filter in
      let right = bgp m b.triples in
      let step = λ (r : Row). or_itself r (fitting m test b.triples r) in
      let later = λ (r : Row). total w (extended m e bs r) in
      total-left_joins bs w (left_join test left right) (all-valid_left_join m test b.triples left valid)
      ∙ total-flat_map w (extended m e bs) (left_join test left right)
      ∙ total-left_join m test b.triples left valid later
      ∙ sym (total-flat_map w (extended m e bs) (flat_map step left))
      ∙ ap (total w) (flat_map-flat_map (extended m e bs) step left)

  -- the solutions of an alternative count as its rows in the listing
  pub total-solutions : (g : Group) (w : Row → ℕ) → total w (solutions m e g) ≡ total w (rows_of m e g)
  total-solutions g w =
      let test = passes e g.filter in
      let first = bgp m g.required in
      total-filter w test (left_joins m e first g.blocks)
      ∙ total-left_joins g.blocks (λ r. cond (test r) (w r) 0) first
      (all-filter (Valid m.top) (stored m g.required) (completions m.top g.required blank)
      (all-valid m.top g.required blank (valid-blank m.top)))
      ∙ sym (total-filter w test (flat_map (extended m e g.blocks) first))

  total-answers : (w : Answer → ℕ) (a : ℕ) (q : List Group)
      → total w (answers_of_from m e a q) ≡ total w (answers_from m e a q)
  total-answers w a [] = refl
  total-answers w a (g ∷ gs) =
      let number = answer_of a in
      omega (
        arith,
        total-append w (numbered a (rows_of m e g)) (answers_of_from m e (a + 1) gs),
        total-append w (numbered a (solutions m e g)) (answers_from m e (a + 1) gs),
        total-map w number (rows_of m e g),
        total-map w number (solutions m e g),
        total-solutions g (λ r. w (number r)),
        total-answers w (a + 1) gs,
      )

  -- every answer is as often in the listing as the algebra counts it
  pub listing_counts : (q : List Group) (a : Answer)
      → times_answered a (answers_of m e q) ≡ times_answered a (answers_to m e q)
  listing_counts q a =
      count_by-total (same_answer a) (answers_of m e q)
      ∙ total-answers (λ b. cond (same_answer a b) 1 0) 0 q
      ∙ sym (count_by-total (same_answer a) (answers_to m e q))
