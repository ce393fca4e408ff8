-- What is sought or leapt to in two sets taken together is the better of the two answers. Assumes nothing.
use Rattle.std.specs.Ordering.{ordering_then, nat_cmp}
use Rattle.std.proofs.lemmas.Bool.Decides.{nat_tests}
use Rattle.std.proofs.Common.{◌≡◌, refl, ℕ, Bool, ltb, ◌⊎◌, Some, None, Option, sym, subst, inl, inr}
use Rattle.std.proofs.Common.{⊎_elim, arith}
use Rattle.std.proofs.lemmas.Bool.{cases_Bool, or_cases, or_left, or_right, ltb-true, ltb-false, cond-true}
use Rattle.std.proofs.lemmas.Bool.{cond-false}
use Rattle.triples.specs.declared.position.Position.{Position}
use Rattle.triples.specs.declared.selector.Selector.{Selector}
use Rattle.triples.specs.declared.triple.Triple.{Triple}
use Rattle.triples.specs.Order.{before}
use Rattle.triples.specs.Seeks.{Candidate, Sought, Offer, Leapt}
use Rattle.triples.specs.Unions.{union, least, earlier, lesser}
use Rattle.triples.proofs.Order.{upto_trans, upto_before}

module _ (A B : Triple → Bool) where
  -- seek

  module _ (s : Selector) (start : Triple) where
    candidate_parts : (t : Triple) → Candidate (union A B) s start t
        → Candidate A s start t ⊎ Candidate B s start t
    candidate_parts t c =
        ⊎_elim (λ h. inl (record { held = h; fit = c.fit; reached = c.reached }))
        (λ h. inr (record { held = h; fit = c.fit; reached = c.reached }))
        (or_cases (A t) (B t) c.held)

    candidate_left : (t : Triple) → Candidate A s start t → Candidate (union A B) s start t
    candidate_left t c = record { held = or_left (A t) (B t) c.held; fit = c.fit; reached = c.reached }

    candidate_right : (t : Triple) → Candidate B s start t → Candidate (union A B) s start t
    candidate_right t c = record { held = or_right (A t) (B t) c.held; fit = c.fit; reached = c.reached }

    pub sought_union : (a b : Option Triple) → Sought A s start a → Sought B s start b
        → Sought (union A B) s start (earlier a b)
    sought_union None None f g = λ t c. ⊎_elim (f t) (g t) (candidate_parts t c)
    sought_union None (Some u) f g = record {
      candidate = candidate_right u g.candidate;
      first = λ t c. ⊎_elim (λ k. absurd (f t k)) (g.first t) (candidate_parts t c);
    }
    sought_union (Some t) None f g = record {
      candidate = candidate_left t f.candidate;
      first = λ u c. ⊎_elim (f.first u) (λ k. absurd (g u k)) (candidate_parts u c);
    }
    sought_union (Some t) (Some u) f g =
        ⊎_elim
        (λ e. subst (Sought (union A B) s start) (sym (cond-true (before u t) (Some u) (Some t) e)) (record {
          candidate = candidate_right u g.candidate;
          first = λ v c. ⊎_elim (λ k. upto_trans u t v (upto_before u t e) (f.first v k)) (g.first v)
              (candidate_parts v c);
        }))
        (λ e. subst (Sought (union A B) s start) (sym (cond-false (before u t) (Some u) (Some t) e)) (record {
          candidate = candidate_left t f.candidate;
          first = λ v c. ⊎_elim (f.first v) (λ k. upto_trans t u v e (g.first v k)) (candidate_parts v c);
        }))
        (cases_Bool (before u t))

  -- leap

  module _ (p : Position) (s : Selector) (bound : ℕ) where
    offer_parts : (n : ℕ) → Offer (union A B) p s bound n → Offer A p s bound n ⊎ Offer B p s bound n
    offer_parts n o =
        ⊎_elim
        (λ h. inl (record {
          triple = o.triple;
          held = h;
          fit = o.fit;
          stands = o.stands;
          reached = o.reached;
        }))
        (λ h. inr (record {
          triple = o.triple;
          held = h;
          fit = o.fit;
          stands = o.stands;
          reached = o.reached;
        }))
        (or_cases (A o.triple) (B o.triple) o.held)

    offer_left : (n : ℕ) → Offer A p s bound n → Offer (union A B) p s bound n
    offer_left n o = record {
      triple = o.triple;
      held = or_left (A o.triple) (B o.triple) o.held;
      fit = o.fit;
      stands = o.stands;
      reached = o.reached;
    }

    offer_right : (n : ℕ) → Offer B p s bound n → Offer (union A B) p s bound n
    offer_right n o = record {
      triple = o.triple;
      held = or_right (A o.triple) (B o.triple) o.held;
      fit = o.fit;
      stands = o.stands;
      reached = o.reached;
    }

    pub leapt_union : (a b : Option ℕ) → Leapt A p s bound a → Leapt B p s bound b
        → Leapt (union A B) p s bound (lesser a b)
    leapt_union None None f g = λ n o. ⊎_elim (f n) (g n) (offer_parts n o)
    leapt_union None (Some k) f g = record {
      offer = offer_right k g.offer;
      first = λ n o. ⊎_elim (λ x. absurd (f n x)) (g.first n) (offer_parts n o);
    }
    leapt_union (Some n) None f g = record {
      offer = offer_left n f.offer;
      first = λ k o. ⊎_elim (f.first k) (λ x. absurd (g k x)) (offer_parts k o);
    }
    leapt_union (Some n) (Some k) f g =
        ⊎_elim
        (λ e. subst (Leapt (union A B) p s bound) (sym (cond-true (ltb k n) (Some k) (Some n) e)) (record {
          offer = offer_right k g.offer;
          first = λ x o. ⊎_elim
              (λ h. let low = ltb-true k n e in let high = f.first x h in omega (arith, low, high))
              (g.first x) (offer_parts x o);
        }))
        (λ e. subst (Leapt (union A B) p s bound) (sym (cond-false (ltb k n) (Some k) (Some n) e)) (record {
          offer = offer_left n f.offer;
          first = λ x o. ⊎_elim (f.first x)
              (λ h. let low = ltb-false k n e in let high = g.first x h in omega (arith, low, high))
              (offer_parts x o);
        }))
        (cases_Bool (ltb k n))

-- the lesser of two triples, or of two numbers

pub least_earlier : (a b : Option Triple)
    → least (λ t u. ordering_then (nat_cmp t.subject u.subject)
    (ordering_then (nat_cmp t.property u.property) (nat_cmp t.object u.object))) a b
    ≡ earlier a b
least_earlier None b = refl
least_earlier (Some t) None = refl
least_earlier (Some t) (Some u) = grind (arith, nat_tests)

pub least_lesser : (a b : Option ℕ) → least nat_cmp a b ≡ lesser a b
least_lesser None b = refl
least_lesser (Some n) None = refl
least_lesser (Some n) (Some k) = grind (arith, nat_tests)

-- a number stays where there is none beside it
pub lesser_none : (a : Option ℕ) → lesser a None ≡ a
lesser_none None = refl
lesser_none (Some n) = refl
