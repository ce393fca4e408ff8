-- The solutions of an alternative in words. Assumes nothing.
use Rattle.std.proofs.Common.{◌≡◌, ℕ, ◌<◌, true, false, cond, List, length, get_or, sym, ◌∙◌, subst, arith}
use Rattle.std.proofs.lemmas.Bool.{both_ways, false_from_ne_true}
use Rattle.std.proofs.lemmas.List.Folds.{list_any_at}
use Rattle.std.specs.List.{list_any}
use Rattle.catalogue.specs.Entries.{Entry}
use Rattle.query.specs.Lawful.{lawful, shares}
use Rattle.query.specs.Parts.{Group}
use Rattle.triples.specs.Meaning.{Meaning, Sound}
use Rattle.filter.specs.Rows.{Row}
use Rattle.algebra.specs.Answers.{solutions, same_row, times}
use Rattle.algebra.specs.Order.{no_group}
use Rattle.algebra.specs.Theorems.{SolutionsInWords}
use Rattle.algebra.proofs.Lists.{count_by-total}
use Rattle.algebra.proofs.Listing.{rows_of}
use Rattle.algebra.proofs.Counts.{total-solutions}
use Rattle.algebra.proofs.Owners.{list_any-shares}
use Rattle.algebra.proofs.ListingOrder.{rows_once}
use Rattle.algebra.proofs.ToWords.{words_from_listed}
use Rattle.algebra.proofs.FromWords.{listed_from_words}

-- no alternative of a lawful query has two blocks that share a variable which its required triples lack
shares-lawful : (q : List Group) (a : ℕ) → lawful q ≡ true → a < length q
    → shares (get_or q a no_group) ≡ false
shares-lawful q a h low =
    false_from_ne_true (shares (get_or q a no_group))
    (λ t. both_ways (list_any shares q) (list_any-shares q h) (list_any_at shares q a no_group low t))

-- a row is a solution of an alternative as often as it is listed for it
times-solutions : (m : Meaning) (e : ℕ → Entry) (g : Group) (r : Row)
    → times r (solutions m e g) ≡ times r (rows_of m e g)
times-solutions m e g r =
    count_by-total (same_row r) (solutions m e g) ∙ total-solutions m e g (λ s. cond (same_row r s) 1 0)
    ∙ sym (count_by-total (same_row r) (rows_of m e g))

pub solutions_in_words : (m : Meaning) (e : ℕ → Entry) (q : List Group) → Sound m → lawful q ≡ true
    → SolutionsInWords m e q
solutions_in_words m e q sound h a r low =
    let g = get_or q a no_group in
    let apart = shares-lawful q a h low in
    let same = times-solutions m e g r in (
      (λ answered. let some = listed_from_words m e g r answered sound apart in
          let most = rows_once m e g apart r in omega arith),
      (λ some. words_from_listed m e g sound apart r (subst (λ n. 0 < n) same some)),
    )
