-- How often an answer is among the answers of a query: as often as its row is among the solutions of its
-- alternative. Assumes nothing.
use Rattle.std.proofs.Common.{◌≡◌, ℕ, zero, suc, ◌+◌, ◌<◌, ◌≤◌, Bool, true, false, ◌&&◌, List, [], ◌∷◌}
use Rattle.std.proofs.Common.{length, get_or, eqb, refl, ap, ◌∙◌, subst, arith, ◌≢◌, count_by}
use Rattle.std.proofs.lemmas.Bool.{eq-eqb, ne_eqb}
use Rattle.catalogue.specs.Entries.{Entry}
use Rattle.query.specs.Lawful.{lawful}
use Rattle.query.specs.Parts.{Group}
use Rattle.triples.specs.Meaning.{Meaning}
use Rattle.filter.specs.Rows.{Row}
use Rattle.algebra.specs.Answers.{Answer, numbered, answers_from, solutions, same_answer, same_row, times}
use Rattle.algebra.specs.Answers.{times_answered}
use Rattle.algebra.specs.Order.{no_group}
use Rattle.algebra.specs.Theorems.{OnceInEach}
use Rattle.algebra.proofs.Lists.{all-every, count_by-append, count_by-map, count_by-none}
use Rattle.algebra.proofs.Rows.{answer_of}
use Rattle.algebra.proofs.Counts.{listing_counts}
use Rattle.algebra.proofs.ListingOrder.{listing_once}

-- numbered

-- how often, by whether the numbers of the alternatives are the same
times-numbered : (x : Answer) (a : ℕ) (rows : List Row) (b : Bool) → eqb x.alternative a ≡ b
    → times_answered x (numbered a rows) ≡ count_by (λ r. b && same_row x.row r) rows
times-numbered x a rows b same =
    count_by-map (same_answer x) (answer_of a) rows
    ∙ ap (λ c. count_by (λ r. c && same_row x.row r) rows) same

times-numbered_own : (x : Answer) (a : ℕ) (rows : List Row) → x.alternative ≡ a
    → times_answered x (numbered a rows) ≡ times x.row rows
times-numbered_own x a rows own = times-numbered x a rows true (eq-eqb x.alternative a own)

times-numbered_other : (x : Answer) (a : ℕ) (rows : List Row) → x.alternative ≢ a
    → times_answered x (numbered a rows) ≡ 0
times-numbered_other x a rows other =
    times-numbered x a rows false (ne_eqb x.alternative a other)
    ∙ count_by-none (λ _. false) rows (all-every (λ _. false ≡ false) (λ _. refl) rows)

-- answers_from

module _ (m : Meaning) (e : ℕ → Entry) (x : Answer) where
  times-next : (a : ℕ) (g : Group) (gs : List Group)
      → times_answered x (answers_from m e a (g ∷ gs))
      ≡ times_answered x (numbered a (solutions m e g)) + times_answered x (answers_from m e (a + 1) gs)
  times-next a g gs =
      count_by-append (same_answer x) (numbered a (solutions m e g)) (answers_from m e (a + 1) gs)

  -- no answer has a number that is not that of one of the alternatives
  times-none : (a : ℕ) (gs : List Group) → ((i : ℕ) → i < length gs → x.alternative ≢ a + i)
      → times_answered x (answers_from m e a gs) ≡ 0
  times-none a [] none = refl
  times-none a (g ∷ gs) none =
      omega (
        arith,
        times-next a g gs,
        times-numbered_other x a (solutions m e g) (λ is. none 0 (omega arith) (omega (arith, is))),
        times-none (a + 1) gs (λ i low is. none (suc i) (omega (arith, low)) (omega (arith, is))),
      )

  -- an answer is there as often as its row is among the solutions of its alternative
  times-at : (a i : ℕ) (gs : List Group) → i < length gs → x.alternative ≡ a + i
      → times_answered x (answers_from m e a gs) ≡ times x.row (solutions m e (get_or gs i no_group))
  times-at a i [] low at = absurd (omega arith)
  times-at a zero (g ∷ gs) low at =
      omega (
        arith,
        times-next a g gs,
        times-numbered_own x a (solutions m e g) (omega arith),
        times-none (a + 1) gs (λ i _ is. omega (arith, at, is)),
      )
  times-at a (suc i) (g ∷ gs) low at =
      omega (
        arith,
        times-next a g gs,
        times-numbered_other x a (solutions m e g) (λ is. omega (arith, at, is)),
        times-at (a + 1) i gs (omega arith) (omega arith),
      )

-- answers_to

pub once_in_each : (m : Meaning) (e : ℕ → Entry) (q : List Group) → lawful q ≡ true → OnceInEach m e q
once_in_each m e q h =
    record {
      each = λ a low. times-at m e a 0 a.alternative q low (omega arith);
      once = λ a. subst (λ n. n ≤ 1) (listing_counts m e q a) (listing_once m e q h a);
      beyond = λ a high. times-none m e a 0 q (λ i low is. omega (arith, high, low, is));
    }
