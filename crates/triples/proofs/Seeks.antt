-- Laws of what seek and leap answer. Assumes nothing.
use Rattle.std.proofs.Common.{◌≡◌, ℕ, ◌+◌, ◌<◌, ◌≤◌, Bool, true, false, leb, is_some, Some, None, Option, sym}
use Rattle.std.proofs.Common.{refl, ◌∙◌, subst, ⊎_elim, arith}
use Rattle.std.proofs.lemmas.Bool.{true≢false, cases_Bool, cases_eq, leb-true, leb-false, cond-true}
use Rattle.std.proofs.lemmas.Bool.{cond-false}
use Rattle.std.proofs.lemmas.Bool.Decides.{nat_tests}
use Rattle.triples.specs.declared.position.Position.{Position}
use Rattle.triples.specs.declared.position.Position.TheVariants.{Subject, Property, Object}
use Rattle.triples.specs.declared.selector.Selector.{Selector}
use Rattle.triples.specs.declared.triple.Triple.{Triple}
use Rattle.triples.specs.Order.{value_at, number_from}
use Rattle.triples.specs.Selectors.{select, aim}
use Rattle.triples.specs.Meaning.{Meaning, Term, Sound, least_term}
use Rattle.triples.specs.Seeks.{Candidate, Sought, Offer, Lowest, Leapt}
use Rattle.triples.proofs.Selectors.{aim_reached, aim_low, aim_least, select-matches, select_value}
use Rattle.triples.proofs.Selectors.{select_back}
use Rattle.triples.proofs.Selectors.{origin_reached}

-- the least of all triples
abbrev pub origin : Triple
origin = record { subject = 0; property = 0; object = 0 }

pub value_term : (m : Meaning) → Sound m → (p : Position) (t : Triple) → m.has t ≡ true
    → Term m.top (value_at p t)
value_term m b Subject t h = (b.terms t h).subject
value_term m b Property t h = (b.terms t h).property
value_term m b Object t h = (b.terms t h).object

-- one seek from the aim settles the leap
module _ (has : Triple → Bool) (p : Position) (s : Selector) (bound : ℕ) (start : Triple)
    (aims : aim s p bound ≡ Some start) where
  offer_candidate : (n : ℕ) → (o : Offer has p s bound n) → Candidate has s start o.triple
  offer_candidate n o = record {
    held = o.held;
    fit = o.fit;
    reached = aim_reached s p bound start o.triple aims o.fit
        (subst (λ k. bound ≤ k) (sym o.stands) o.reached);
  }

  pub leapt_from_sought : (r : Option Triple) → Sought has s start r
      → Leapt has p s bound (number_from p bound r)
  leapt_from_sought None none = λ n o. none o.triple (offer_candidate n o)
  leapt_from_sought (Some t) l =
      ⊎_elim
      (λ high. subst (Leapt has p s bound)
      (sym (cond-true (leb bound (value_at p t)) (Some (value_at p t)) None high))
      (record {
        offer = record {
          triple = t;
          held = l.candidate.held;
          fit = l.candidate.fit;
          stands = refl;
          reached = leb-true bound (value_at p t) high;
        };
        first = λ k o. subst (λ x. value_at p t ≤ x) o.stands
            (aim_least s p bound start t o.triple aims l.candidate.fit o.fit
            (l.first o.triple (offer_candidate k o)));
      }))
      (λ low. subst (Leapt has p s bound)
      (sym (cond-false (leb bound (value_at p t)) (Some (value_at p t)) None low))
      (λ n o. let below = leb-false bound (value_at p t) low in
      let above = aim_low s p bound start t o.triple aims l.candidate.fit l.candidate.reached
      o.fit
      (subst (λ k. bound ≤ k) (sym o.stands) o.reached) in
      absurd (omega (arith, below, above))))
      (cases_Bool (leb bound (value_at p t)))

-- one number after the other
module _ (m : Meaning) (p : Position) (s : Selector) (bound : ℕ) (aimless : aim s p bound ≡ None) where
  abbrev pub PassedBy : ℕ → Type 0
  PassedBy n = (k : ℕ) → Offer m.has p s bound k → n ≤ k

  selected : (n k : ℕ) (o : Offer m.has p s bound k) → k ≡ n → Candidate m.has (select s p n) origin
      o.triple
  selected n k o e = record {
    held = o.held;
    fit = select-matches s p n o.triple o.fit (o.stands ∙ e);
    reached = origin_reached o.triple;
  }

  pub passed_more : (n : ℕ) (r : Option Triple) → Sought m.has (select s p n) origin r → false ≡ is_some r
      → PassedBy n → PassedBy (n + 1)
  passed_more n None none e by k o =
      ⊎_elim (λ i. absurd (none o.triple (selected n k o i)))
      (λ ne. let high = by k o in omega (arith, high, ne))
      (cases_eq k n)
  passed_more n (Some t) l e by k o = absurd (true≢false (sym e))

  pub passed_found : (n : ℕ) (r : Option Triple) → Sought m.has (select s p n) origin r → true ≡ is_some r
      → 1 ≤ n → bound ≤ n → PassedBy n → Lowest m.has p s bound n
  passed_found n None none e one high by = absurd (true≢false e)
  passed_found n (Some t) l e one high by = record {
    offer = record {
      triple = t;
      held = l.candidate.held;
      fit = select_back s p bound n t aimless l.candidate.fit;
      stands = select_value s p n t one l.candidate.fit;
      reached = high;
    };
    first = by;
  }

  pub passed_none : Sound m → PassedBy (least_term bound)
  passed_none b k o =
      let positive = (value_term m b p o.triple o.held).positive in
      let at = o.stands in
      let reached = o.reached in grind (arith, nat_tests)

  pub passed_all : (b : Sound m) (n : ℕ) → m.top < n → PassedBy n → Leapt m.has p s bound None
  passed_all b n above by k o =
      let term = value_term m b p o.triple o.held in
      let at = o.stands in let high = by k o in
      let small = term.small in
      omega (arith, above, at, high, small)

pub term_least : (bound : ℕ) → (1 ≤ least_term bound) × (bound ≤ least_term bound)
term_least bound = (grind (arith, nat_tests), grind (arith, nat_tests))
