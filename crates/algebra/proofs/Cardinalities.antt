-- How often a row occurs in what the operators make, and that nothing but counts matters to them. Assumes
-- nothing.
use Rattle.std.proofs.Common.{◌≡◌, ℕ, ◌+◌, ◌<◌, Bool, true, false, cond, not, ◌&&◌, ◌||◌, List, [], ◌∷◌, ◌++◌}
use Rattle.std.proofs.Common.{map, eqb, refl, sym, ap, ap₂, ◌∙◌, arith, ⊎_elim}
use Rattle.std.proofs.lemmas.Bool.{cases_Bool, cond-true, cond-false, ne_eqb}
use Rattle.std.specs.List.{filter, list_all}
use Rattle.query.specs.Lawful.{total}
use Rattle.filter.specs.Rows.{Row}
use Rattle.algebra.specs.Algebra.{compatible, merge, join, diff}
use Rattle.algebra.specs.Answers.{same_row, times}
use Rattle.algebra.specs.Theorems.{CountedAsDefined, AsOften, OnlyCountsMatter}
use Rattle.algebra.proofs.Lists.{total-flat_map, total-map, total-filter, total-like, total-cond, cond-same}
use Rattle.algebra.proofs.Lists.{count_by-append, count_by-total}
use Rattle.algebra.proofs.Rows.{equal_from_same_row, same_row-refl}

-- what the row s counts for r
abbrev one : Row → Row → ℕ
one r s = cond (same_row r s) 1 0

-- cond

cond-and : (a b : Bool) → ◌≡◌ {A = ℕ} (cond a (cond b 1 0) 0) (cond (a && b) 1 0)
cond-and true b = refl
cond-and false b = refl

-- filter

-- only rows that are the same count, and to them the test is the same
one-filtered : (test : Row → Bool) (r s : Row) → cond (test s) (one r s) 0 ≡ cond (test r) (one r s) 0
one-filtered test r s =
    ⊎_elim
    (λ e. ap (λ t. cond (test t) (one r s) 0) (sym (equal_from_same_row r s e)))
    (λ f. ap (λ b. cond (test s) (cond b 1 0) 0) f
    ∙ cond-same (test s) 0 ∙ sym (cond-same (test r) 0)
    ∙ ap (λ b. cond (test r) (cond b 1 0) 0) (sym f))
    (cases_Bool (same_row r s))

pub times-filter : (test : Row → Bool) (rows : List Row) (r : Row)
    → times r (filter test rows) ≡ cond (test r) (times r rows) 0
times-filter test rows r =
    count_by-total (same_row r) (filter test rows)
    ∙ total-filter (one r) test rows
    ∙ total-like _ _ (one-filtered test r) rows
    ∙ total-cond (test r) (one r) rows
    ∙ ap (λ n. cond (test r) n 0) (sym (count_by-total (same_row r) rows))

-- join

-- what the merge of s and t counts, if there is one
abbrev pair : (Row → ℕ) → Row → Row → ℕ
pair w s t = cond (compatible s t) (w (merge s t)) 0

-- the total of what a join makes is that of all pairs
total-join : (w : Row → ℕ) (left right : List Row)
    → total w (join left right) ≡ total (λ s. total (pair w s) right) left
total-join w left right =
    total-flat_map w (λ s. map (merge s) (filter (compatible s) right)) left
    ∙ total-like _ _ (λ s. total-map w (merge s) (filter (compatible s) right)
    ∙ total-filter (λ t. w (merge s t)) (compatible s) right) left

times-join : (left right : List Row) (r : Row)
    → times r (join left right)
    ≡ total (λ s. total (λ t. cond (compatible s t && same_row r (merge s t)) 1 0) right) left
times-join left right r =
    count_by-total (same_row r) (join left right)
    ∙ total-join (one r) left right
    ∙ total-like _ _
    (λ s. total-like _ _ (λ t. cond-and (compatible s t) (same_row r (merge s t))) right)
    left

-- each operator counts as it is defined to
pub counted_as_defined : CountedAsDefined
counted_as_defined test left right r = record {
  filtered = times-filter test left r;
  united = count_by-append (same_row r) left right;
  joined = times-join left right r;
  lacking = times-filter (λ s. list_all (λ t. not (compatible s t) || not (test (merge s t))) right) left r;
  left_joined = count_by-append (same_row r) (filter test (join left right)) (diff test left right);
}

-- only counts matter

-- the rows without the first that is r
abbrev without : Row → List Row → List Row
without r [] = []
without r (s ∷ rows) = cond (same_row r s) rows (s ∷ without r rows)

-- the total over rows among which r is
total-without : (w : Row → ℕ) (r : Row) (rows : List Row) → 0 < total (one r) rows
    → total w rows ≡ w r + total w (without r rows)
total-without w r [] some = absurd (omega arith)
total-without w r (s ∷ rows) some =
    ⊎_elim
    (λ e. ap (λ t. w t + total w rows) (sym (equal_from_same_row r s e))
    ∙ ap (λ l. w r + total w l) (sym (cond-true (same_row r s) rows (s ∷ without r rows) e)))
    (λ f. let less : one r s ≡ 0 = cond-false (same_row r s) 1 0 f in
    let rest = total-without w r rows (omega (arith, some, less)) in
    let left = ap (total w) (cond-false (same_row r s) rows (s ∷ without r rows) f) in
    omega (arith, rest, left))
    (cases_Bool (same_row r s))

one-own : (r : Row) → one r r ≡ 1
one-own r = cond-true (same_row r r) 1 0 (same_row-refl r)

-- rows that occur equally often have equal totals
total-as_often : (w : Row → ℕ) (rows others : List Row)
    → ((r : Row) → total (one r) rows ≡ total (one r) others) → total w rows ≡ total w others
total-as_often w [] [] same = refl
total-as_often w [] (s ∷ others) same = absurd (omega (arith, same s, one-own s))
total-as_often w (r ∷ rows) others same =
    let some : 0 < total (one r) others = omega (arith, same r, one-own r) in
    let rest = total-as_often w rows (without r others)
    (λ s. omega (arith, same s, total-without (one s) r others some)) in
    omega (arith, rest, total-without w r others some)

pub total-alike : (w : Row → ℕ) (rows others : List Row) → AsOften rows others → total w rows ≡ total w others
total-alike w rows others same =
    total-as_often w rows others
    (λ r. sym (count_by-total (same_row r) rows) ∙ same r ∙ count_by-total (same_row r) others)

-- what a row that fails the test counts
abbrev failing : (Row → Bool) → Row → ℕ
failing p s = cond (p s) 0 1

-- a test holds of all rows exactly if those that fail it total to nothing
list_all-total : (p : Row → Bool) (rows : List Row) → list_all p rows ≡ eqb (total (failing p) rows) 0
list_all-total p [] = refl
list_all-total p (s ∷ rows) =
    let rest = total (failing p) rows in
    ⊎_elim
    (λ t. let none : failing p s ≡ 0 = cond-true (p s) 0 1 t in
    let same : rest ≡ failing p s + rest = omega (arith, none) in
    ap (λ b. b && list_all p rows) t ∙ list_all-total p rows ∙ ap (λ n. eqb n 0) same)
    (λ f. let some : failing p s ≡ 1 = cond-false (p s) 0 1 f in
    ap (λ b. b && list_all p rows) f ∙ sym (ne_eqb (failing p s + rest) 0 (λ z. omega (arith, z, some))))
    (cases_Bool (p s))

pub list_all-alike : (p : Row → Bool) (rows others : List Row) → AsOften rows others
    → list_all p rows ≡ list_all p others
list_all-alike p rows others same =
    list_all-total p rows
    ∙ ap (λ n. eqb n 0) (total-alike (failing p) rows others same)
    ∙ sym (list_all-total p others)

filter-alike : (test : Row → Bool) (rows others : List Row) → AsOften rows others
    → AsOften (filter test rows) (filter test others)
filter-alike test rows others same r =
    times-filter test rows r ∙ ap (λ n. cond (test r) n 0) (same r) ∙ sym (times-filter test others r)

append-alike : (left right other_left other_right : List Row) → AsOften left other_left
    → AsOften right other_right → AsOften (left ++ right) (other_left ++ other_right)
append-alike left right other_left other_right lefts rights r =
    count_by-append (same_row r) left right ∙ ap₂ (λ n k. n + k) (lefts r) (rights r)
    ∙ sym (count_by-append (same_row r) other_left other_right)

join-alike : (left right other_left other_right : List Row) → AsOften left other_left
    → AsOften right other_right → AsOften (join left right) (join other_left other_right)
join-alike left right other_left other_right lefts rights r =
    count_by-total (same_row r) (join left right)
    ∙ total-join (one r) left right
    ∙ total-like _ _ (λ s. total-alike (pair (one r) s) right other_right rights) left
    ∙ total-alike (λ s. total (pair (one r) s) other_right) left other_left lefts
    ∙ sym (total-join (one r) other_left other_right)
    ∙ sym (count_by-total (same_row r) (join other_left other_right))

diff-alike : (test : Row → Bool) (left right other_left other_right : List Row) → AsOften left other_left
    → AsOften right other_right → AsOften (diff test left right) (diff test other_left other_right)
diff-alike test left right other_left other_right lefts rights r =
    let apart = λ (t : Row). not (compatible r t) || not (test (merge r t)) in
    (counted_as_defined test left right r).lacking
    ∙ ap (λ n. cond (list_all apart right) n 0) (lefts r)
    ∙ ap (λ b. cond b (times r other_left) 0) (list_all-alike apart right other_right rights)
    ∙ sym (counted_as_defined test other_left other_right r).lacking

-- of the rows that the operators take, only counts matter
pub only_counts_matter : OnlyCountsMatter
only_counts_matter test left right other_left other_right lefts rights =
    let joins = join-alike left right other_left other_right lefts rights in
    let lacks = diff-alike test left right other_left other_right lefts rights in
    let merges = join left right in
    let other_merges = join other_left other_right in
    record {
      filtered = filter-alike test left other_left lefts;
      united = append-alike left right other_left other_right lefts rights;
      joined = joins;
      lacking = lacks;
      left_joined =
          append-alike (filter test merges) (diff test left right) (filter test other_merges)
          (diff test other_left other_right) (filter-alike test merges other_merges joins) lacks;
    }
