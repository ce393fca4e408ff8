-- What a leap tells of a later question. Assumes nothing.
use Rattle.std.proofs.Common.{◌≡◌, ℕ, ◌+◌, ◌<◌, ◌≤◌, Bool, true, false, Some, None, Option, refl, ⊎_elim}
use Rattle.std.proofs.Common.{arith}
use Rattle.std.proofs.lemmas.Bool.{cases_eq}
use Rattle.std.proofs.lemmas.Bool.Decides.{nat_tests}
use Rattle.triples.specs.declared.position.Position.{Position}
use Rattle.triples.specs.declared.position.Position.TheVariants.{Subject, Property, Object}
use Rattle.triples.specs.declared.selector.Selector.{Selector}
use Rattle.triples.specs.declared.triple.Triple.{Triple}
use Rattle.triples.specs.Meaning.{Meaning, Sound, largest_top}
use Rattle.triples.specs.Order.{before, value_at}
use Rattle.triples.specs.Selectors.{matches, select}
use Rattle.triples.specs.Seeks.{Candidate, Least, Sought, Offer, Lowest, Leapt}
use Rattle.triples.proofs.Seeks.{value_term}
use Rattle.triples.proofs.Selectors.{select-matches, select_value}

-- a triple with n at the position matches the selector, so the selector's entry there is 0 or n
pub select_back_value : (s : Selector) (p : Position) (n : ℕ) (t u : Triple) → matches s t ≡ true
    → value_at p t ≡ n → matches (select s p n) u ≡ true → 1 ≤ n → matches s u ≡ true
select_back_value s Subject n t u h e k one = grind (arith, nat_tests)
select_back_value s Property n t u h e k one = grind (arith, nat_tests)
select_back_value s Object n t u h e k one = grind (arith, nat_tests)

pub lowest_term : (m : Meaning) (p : Position) (s : Selector) (from n : ℕ) → Sound m
    → Lowest m.has p s from n → (1 ≤ n) × (n ≤ largest_top)
lowest_term m p s from n b l =
    let term = value_term m b p l.offer.triple l.offer.held in (
      omega (arith, term.positive, l.offer.stands),
      omega (arith, term.small, l.offer.stands, b.small),
    )

-- a seek by subjects: the least subject, and then what is sought of that subject

subject_reached : (t start : Triple) → before t start ≡ false → start.subject ≤ t.subject
subject_reached t start h = grind (arith, nat_tests)

subject_behind : (t start : Triple) → start.subject < t.subject → before t start ≡ false
subject_behind t start h = grind (arith, nat_tests)

module _ (A : Triple → Bool) (s : Selector) (start : Triple) where
  -- no triple of a lower subject is sought
  abbrev From : ℕ → Type 0
  From low = (t : Triple) → Candidate A s start t → low ≤ t.subject

  from_start : From start.subject
  from_start t c = subject_reached t start c.reached

  subject_offer : (low : ℕ) → From low → (t : Triple) → Candidate A s start t
      → Offer A Subject s low t.subject
  subject_offer low from t c = record {
    triple = t;
    held = c.held;
    fit = c.fit;
    stands = refl;
    reached = from t c;
  }

  sought_no_subject : (low : ℕ) → From low → Leapt A Subject s low None → Sought A s start None
  sought_no_subject low from none t c = none t.subject (subject_offer low from t c)

  candidate_of : (n : ℕ) (t : Triple) → Candidate A s start t → t.subject ≡ n
      → Candidate A (select s Subject n) start t
  candidate_of n t c e = record {
    held = c.held;
    fit = select-matches s Subject n t c.fit e;
    reached = c.reached;
  }

  least_of_subject : (low n : ℕ) → From low → Lowest A Subject s low n → 1 ≤ n → (t : Triple)
      → Least A (select s Subject n) start t → Least A s start t
  least_of_subject low n from l one t f =
      let is = select_value s Subject n t one f.candidate.fit in
      record {
        candidate = record {
          held = f.candidate.held;
          fit = select_back_value s Subject n l.offer.triple t l.offer.fit l.offer.stands
              f.candidate.fit one;
          reached = f.candidate.reached;
        };
        first = λ u c. ⊎_elim (λ e. f.first u (candidate_of n u c e))
            (λ ne. let high = l.first u.subject (subject_offer low from u c) in
            subject_behind u t (omega (arith, high, ne, is)))
            (cases_eq u.subject n);
      }

  pub sought_none : Leapt A Subject s start.subject None → Sought A s start None
  sought_none = sought_no_subject start.subject from_start

  -- n is the least subject from the start's on
  module _ (n : ℕ) (l : Lowest A Subject s start.subject n) (one : 1 ≤ n) where
    pub sought_first : (t : Triple) → Least A (select s Subject n) start t → Least A s start t
    sought_first = least_of_subject start.subject n from_start l one

    -- of which nothing is sought
    module _ (nothing : Sought A (select s Subject n) start None) where
      from_next : From (n + 1)
      from_next t c =
          ⊎_elim (λ e. absurd (nothing t (candidate_of n t c e)))
          (λ ne. let high = l.first t.subject (subject_offer start.subject from_start t c) in
          omega (arith, high, ne))
          (cases_eq t.subject n)

      pub sought_none_next : Leapt A Subject s (n + 1) None → Sought A s start None
      sought_none_next = sought_no_subject (n + 1) from_next

      pub sought_next : (k : ℕ) → Lowest A Subject s (n + 1) k → (r : Option Triple)
          → Sought A (select s Subject k) start r → Sought A s start r
      sought_next k next None none = λ t c.
          let o = next.offer in
          none o.triple (record {
            held = o.held;
            fit = select-matches s Subject k o.triple o.fit o.stands;
            reached = subject_behind o.triple start
                (omega (arith, o.stands, o.reached, l.offer.reached));
          })
      sought_next k next (Some t) f =
          least_of_subject (n + 1) k from_next next (omega (arith, next.offer.reached)) t f
