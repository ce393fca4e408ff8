-- Laws of a store without some triples. Assumes nothing.
use Rattle.std.proofs.Common.{◌≡◌, ℕ, ◌+◌, ◌≤◌, Bool, true, false, cond, not}
use Rattle.std.proofs.Common.{ltb, List, [], ◌∷◌, ◌++◌, length, is_ok, is_some, Some, None, Option, Result}
use Rattle.std.proofs.Common.{sym, refl, ap, ◌∙◌, ⊎_elim, arith}
use mathlib.Core.Path.{fun_ext}
use Rattle.std.proofs.lemmas.Bool.{true≢false, cases_eq, not_from_false}
use Rattle.std.proofs.lemmas.Bool.Decides.{nat_tests}
use Rattle.std.proofs.lemmas.Bool.{and_parts, and_from}
use Rattle.refusal.specs.declared.refusal.Refusal.TheVariants.{WithdrawnFull}
use Rattle.refusal.specs.declared.rejection.Rejection.{Rejection}
use Rattle.triples.specs.declared.position.Position.{Position}
use Rattle.triples.specs.declared.selector.Selector.{Selector}
use Rattle.triples.specs.declared.triple.Triple.{Triple}
use Rattle.triples.specs.Meaning.{Meaning, Sound, among}
use Rattle.triples.specs.Order.{before, same}
use Rattle.triples.specs.Selectors.{select}
use Rattle.triples.specs.Succession.{behind}
use Rattle.triples.specs.Seeks.{Candidate, Least, Sought, Offer, Lowest, Leapt}
use Rattle.triples.proofs.Order.{before_itself, upto_trans, same_is}
use Rattle.triples.proofs.Ranks.{behind_reached, upto_behind}
use Rattle.triples.proofs.Seeks.{origin}
use Rattle.triples.proofs.Selectors.{select-matches, select_value, origin_reached}
use Rattle.layers.specs.Sets.{most_withdrawn}
use Rattle.layers.specs.Withdrawals.{without, amended, outcome, Withdraws}
use Rattle.layers.proofs.Leaps.{select_back_value, lowest_term}
use Rattle.layers.proofs.Sets.{among_push}

without_push : (m : Meaning) (gone : List Triple) (t : Triple)
    → without m (gone ++ t ∷ []) ≡ amended (without m gone) t false
without_push m gone t =
    ap (λ (h : Triple → Bool). record { top = m.top; has = h })
    (fun_ext (λ u. grind (arith, nat_tests, among_push gone t u)))

without_added : (m : Meaning) (gone : List Triple) (t : Triple) (b : Bool)
    → without m (cond b (gone ++ t ∷ []) gone) ≡ cond b (amended (without m gone) t false) (without m gone)
without_added m gone t true = without_push m gone t
without_added m gone t false = refl

-- a triple below that is not withdrawn yet is withdrawn where there is room
pub withdraws_room : (m : Meaning) (gone : List Triple) (t : Triple) (r : Result (Unit {0}) Rejection)
    (later : List Triple) → among gone t ≡ false → m.has t ≡ true
    → is_ok r ≡ ltb (length gone) most_withdrawn → r ≡ outcome (cond (is_ok r) None (Some WithdrawnFull))
    → later ≡ cond (is_ok r) (gone ++ t ∷ []) gone → Withdraws m gone t r later
withdraws_room m gone t r later new held room answer list = record {
  answer = grind (arith, nat_tests);
  list = list;
  meaning = ap (without m) list ∙ without_added m gone t (is_ok r);
}

-- seek

module _ (m : Meaning) (gone : List Triple) (s : Selector) (start from : Triple) where
  -- from is not below start, and no triple between the two is sought
  pub record Passed : Type 0 where
    pub onward : before from start ≡ false
    pub none : (u : Triple) → Candidate (without m gone).has s start u → before u from ≡ false

  candidate_below : Passed → (u : Triple) → Candidate (without m gone).has s start u
      → Candidate m.has s from u
  candidate_below p u c = record {
    held = (and_parts (m.has u) (not (among gone u)) c.held).0;
    fit = c.fit;
    reached = p.none u c;
  }

  pub passed_from : from ≡ start → Passed
  passed_from e = record {
    onward = ap (λ t. before t start) e ∙ before_itself start;
    none = λ u c. ap (before u) e ∙ c.reached;
  }

  pub passed_all : Passed → Sought m.has s from None → Sought (without m gone).has s start None
  passed_all p end u c = end u (candidate_below p u c)

  pub passed_found : Passed → (t : Triple) → Least m.has s from t → among gone t ≡ false
      → Least (without m gone).has s start t
  passed_found p t l stays = record {
    candidate = record {
      held = and_from (m.has t) (not (among gone t)) l.candidate.held
          (not_from_false (among gone t) stays);
      fit = l.candidate.fit;
      reached = upto_trans start from t p.onward l.candidate.reached;
    };
    first = λ u c. l.first u (candidate_below p u c);
  }

  different : (t u : Triple) → among gone t ≡ true → Candidate (without m gone).has s start u
      → same t u ≡ false
  different t u away c = grind (arith, nat_tests, same_is t u, c.held)

pub passed_more : (m : Meaning) (gone : List Triple) (s : Selector) (start from t : Triple)
    → Passed m gone s start from → Least m.has s from t → among gone t ≡ true
    → Passed m gone s start (behind t)
passed_more m gone s start from t p l away = record {
  onward = behind_reached t start (upto_trans start from t p.onward l.candidate.reached);
  none = λ u c. upto_behind t u (l.first u (candidate_below m gone s start from p u c))
      (different m gone s start from t u away c);
}

-- leap

-- from is not below the bound, and no number between the two is offered
pub record LeaptPast (has : Triple → Bool) (p : Position) (s : Selector) (bound from : ℕ) : Type 0 where
  pub onward : bound ≤ from
  pub none : (n : ℕ) → Offer has p s bound n → from ≤ n

module _ (m : Meaning) (gone : List Triple) (p : Position) (s : Selector) (bound from : ℕ)
    (past : LeaptPast (without m gone).has p s bound from) where
  offer_below : (n : ℕ) → Offer (without m gone).has p s bound n → Offer m.has p s from n
  offer_below n o = record {
    triple = o.triple;
    held = (and_parts (m.has o.triple) (not (among gone o.triple)) o.held).0;
    fit = o.fit;
    stands = o.stands;
    reached = past.none n o;
  }

  pub leapt_past_all : Leapt m.has p s from None → Leapt (without m gone).has p s bound None
  leapt_past_all none n o = none n (offer_below n o)

  module _ (n : ℕ) (l : Lowest m.has p s from n) where
    pub leapt_past_found : Sound m → (r : Option Triple)
        → Sought (without m gone).has (select s p n) origin r
        → true ≡ is_some r → Lowest (without m gone).has p s bound n
    leapt_past_found b None none e = absurd (true≢false e)
    leapt_past_found b (Some t) found e =
        let o = l.offer in
        let one = (lowest_term m p s from n b l).0 in
        record {
          offer = record {
            triple = t;
            held = found.candidate.held;
            fit = select_back_value s p n o.triple t o.fit o.stands found.candidate.fit one;
            stands = select_value s p n t one found.candidate.fit;
            reached = omega (arith, past.onward, o.reached);
          };
          first = λ k other. l.first k (offer_below k other);
        }

    pub leapt_past_more : (r : Option Triple) → Sought (without m gone).has (select s p n) origin r
        → false ≡ is_some r → LeaptPast (without m gone).has p s bound (n + 1)
    leapt_past_more (Some t) found e = absurd (true≢false (sym e))
    leapt_past_more None none e = record {
      onward = omega (arith, past.onward, l.offer.reached);
      none = λ k o. ⊎_elim
          (λ i. absurd (none o.triple (record {
            held = o.held;
            fit = select-matches s p n o.triple o.fit (o.stands ∙ i);
            reached = origin_reached o.triple;
          })))
          (λ ne. let high = l.first k (offer_below k o) in omega (arith, high, ne))
          (cases_eq k n);
    }
