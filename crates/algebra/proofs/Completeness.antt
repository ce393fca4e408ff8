-- The walk lists the query's answers: what is proved of the walk, of the algebra's counts and of the order,
-- put together. Assumes nothing.
use Rattle.std.proofs.Common.{◌≡◌, ℕ, ◌≤◌, true, List, sym, ap, ◌∙◌, subst}
use Rattle.catalogue.specs.Entries.{Entry}
use Rattle.query.specs.Lawful.{lawful}
use Rattle.query.specs.Parts.{Group}
use Rattle.triples.specs.Meaning.{Meaning}
use Rattle.algebra.specs.Answers.{Answer, times_answered}
use Rattle.algebra.specs.Order.{Precedes, Ascending}
use Rattle.algebra.specs.Theorems.{WalkListsAnswers}
use Rattle.algebra.proofs.Walks.{walk_is_answers}
use Rattle.algebra.proofs.Counts.{listing_counts}
use Rattle.algebra.proofs.ListingOrder.{listing_ascends, listing_once}

pub walk_lists_answers : (m : Meaning) (e : ℕ → Entry) (q : List Group) → lawful q ≡ true
    → WalkListsAnswers m e q
walk_lists_answers m e q h admits law =
    let listed = walk_is_answers m e admits q law in
    record {
      as_often = λ a. ap (times_answered a) listed ∙ listing_counts m e q a;
      in_order = subst (Ascending (Precedes q)) (sym listed) (listing_ascends m e q h);
      once = λ a. subst (λ (answers : List Answer). times_answered a answers ≤ 1) (sym listed)
          (listing_once m e q h a);
    }
