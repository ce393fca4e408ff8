-- How the turned triples of a store are found by asking for those that they come from. Assumes nothing.
use Rattle.std.proofs.Common.{◌≡◌, ℕ, ◌≤◌, Bool, true, false, leb, is_some, Some, None, Option}
use Rattle.std.proofs.Common.{sym, refl, ap, ◌∙◌, subst, arith}
use Rattle.std.proofs.lemmas.Bool.Decides.{nat_tests}
use Rattle.std.specs.Bool.{then_some}
use Rattle.triples.specs.declared.position.Position.{Position}
use Rattle.triples.specs.declared.position.Position.TheVariants.{Subject, Property, Object}
use Rattle.triples.specs.declared.selector.Selector.{Selector}
use Rattle.triples.specs.declared.triple.Triple.{Triple}
use Rattle.triples.specs.Meaning.{Meaning, Sound, largest_top}
use Rattle.triples.specs.Order.{before, value_at}
use Rattle.triples.specs.Selectors.{matches}
use Rattle.triples.specs.Seeks.{Candidate, Least, Sought, Offer, Lowest, Leapt}
use Rattle.triples.proofs.Seeks.{origin}
use Rattle.triples.proofs.Selectors.{origin_reached}
use Rattle.layers.specs.Inverses.{flip, turned}
use Rattle.layers.specs.Soundness.{sound_turned}
use Rattle.layers.specs.Turns.{swapped, object_from}
use Rattle.layers.proofs.Leaps.{lowest_term}

-- a leap in one set answers one in another where the same numbers are offered
leapt_like : (A B : Triple → Bool) (p k : Position) (s w : Selector) (bound : ℕ)
    → ((n : ℕ) → Offer A p s bound n → Offer B k w bound n)
    → ((n : ℕ) → Offer B k w bound n → Offer A p s bound n)
    → (r : Option ℕ) → Leapt B k w bound r → Leapt A p s bound r
leapt_like A B p k s w bound to from None none = λ n o. none n (to n o)
leapt_like A B p k s w bound to from (Some n) l = record {
  offer = from n l.offer;
  first = λ x o. l.first x (to x o);
}

swapped_small : (p q top : ℕ) (s w : Selector) → swapped p q top s ≡ Some w → leb q top ≡ true
swapped_small p q top s w e = grind (arith, nat_tests)

swapped_matches : (p q top : ℕ) (s w : Selector) (t : Triple) → swapped p q top s ≡ Some w → t.property ≡ q
    → matches s t ≡ true → matches w (flip p t) ≡ true
swapped_matches p q top s w t e h k = grind (arith, nat_tests)

swapped_back : (p q top : ℕ) (s w : Selector) (u : Triple) → swapped p q top s ≡ Some w → matches w u ≡ true
    → matches s (flip q u) ≡ true
swapped_back p q top s w u e h = grind (arith, nat_tests)

swapped_property : (p q top : ℕ) (s w : Selector) (u : Triple) → swapped p q top s ≡ Some w → 1 ≤ p
    → matches w u ≡ true → flip p (flip q u) ≡ u
swapped_property p q top s w u e one h = grind (arith, nat_tests)

swapped_subject : (p q top : ℕ) (s w : Selector) (u : Triple) (x : ℕ) → swapped p q top s ≡ Some w
    → 1 ≤ s.subject → matches w u ≡ true → u.subject ≡ x
    → ◌≡◌ {A = Triple} (record { subject = s.subject; property = q; object = x }) (flip q u)
swapped_subject p q top s w u x e known h k = grind (arith, nat_tests)

least_object : (q : ℕ) (s : Selector) (t : Triple) (x : ℕ) → 1 ≤ s.subject → matches s t ≡ true
    → t.property ≡ q → x ≤ t.object
    → before t (record { subject = s.subject; property = q; object = x }) ≡ false
least_object q s t x known h k l = grind (arith, nat_tests)

-- object_from

reached_object : (q : ℕ) (s : Selector) (start : Triple) (bound : ℕ) (t : Triple)
    → object_from q s.subject start ≡ Some bound → 1 ≤ s.subject → matches s t ≡ true → t.property ≡ q
    → before t start ≡ false → bound ≤ t.object
reached_object q s start bound t e known h k l = grind (arith, nat_tests)

object_reached : (q : ℕ) (s : Selector) (start : Triple) (bound x : ℕ)
    → object_from q s.subject start ≡ Some bound → bound ≤ x
    → before (record { subject = s.subject; property = q; object = x }) start ≡ false
object_reached q s start bound x e h = grind (arith, nat_tests)

-- the turned triples that match s, and the triples that match w which they come from
module _ (m : Meaning) (p q : ℕ) (s w : Selector) (one : 1 ≤ p) {top : ℕ} (high : top ≡ m.top)
    (answer : Some w ≡ swapped p q top s) where
  asked : swapped p q m.top s ≡ Some w
  asked = sym (answer ∙ ap (λ n. swapped p q n s) high)

  -- t is turned and matches s: what it comes from is in m and matches w
  record Origin (t : Triple) : Type 0 where
    pub held : m.has (flip p t) ≡ true
    pub fit : matches w (flip p t) ≡ true
    pub named : t.property ≡ q

  origin_from_turned : (t : Triple) → turned p q m t ≡ true → matches s t ≡ true → Origin t
  origin_from_turned t h k =
      let named : t.property ≡ q = grind (arith, nat_tests) in
      record {
        held = grind (arith, nat_tests);
        fit = swapped_matches p q m.top s w t asked named k;
        named = named;
      }

  turned_held : (u : Triple) → m.has u ≡ true → matches w u ≡ true → turned p q m (flip q u) ≡ true
  turned_held u h k =
      let back = ap m.has (swapped_property p q m.top s w u asked one k) ∙ h in
      grind (arith, nat_tests, back, swapped_small p q m.top s w asked)

  turned_fit : (u : Triple) → matches w u ≡ true → matches s (flip q u) ≡ true
  turned_fit u k = swapped_back p q m.top s w u asked k

  -- leap

  module _ (bound : ℕ) where
    named : (n : ℕ) → Offer (turned p q m) Property s bound n → n ≡ q
    named n o = sym o.stands ∙ (origin_from_turned o.triple o.held o.fit).named

    sought_property : (r : Option Triple) → Sought m.has w origin r → bound ≤ q
        → Leapt (turned p q m) Property s bound (then_some (is_some r) q)
    sought_property None none h = λ n o.
        let from = origin_from_turned o.triple o.held o.fit in
        none (flip p o.triple) (record {
          held = from.held;
          fit = from.fit;
          reached = origin_reached (flip p o.triple);
        })
    sought_property (Some u) found h = record {
      offer = record {
        triple = flip q u;
        held = turned_held u found.candidate.held found.candidate.fit;
        fit = turned_fit u found.candidate.fit;
        stands = refl;
        reached = h;
      };
      first = λ n o. let is = named n o in omega (arith, is);
    }

  -- what the store answered, which still means m, at the position asked
  module _ (bound : ℕ) {now : Meaning} (same : now ≡ m) {k : Position} where
    -- a number at i of a triple is one at j of the turned triple, and the other way round
    leapt_turned : (j i : Position) → ((n : ℕ) (t : Triple) → value_at i (flip n t) ≡ value_at j t)
        → ((n : ℕ) (t : Triple) → value_at j (flip n t) ≡ value_at i t) → k ≡ j → (r : Option ℕ)
        → Leapt now.has i w bound r → Leapt (turned p q m) k s bound r
    leapt_turned j i there back e r l =
        subst (λ x. Leapt (turned p q m) x s bound r) (sym e)
        (leapt_like (turned p q m) m.has j i s w bound
        (λ n o. let from = origin_from_turned o.triple o.held o.fit in record {
          triple = flip p o.triple;
          held = from.held;
          fit = from.fit;
          stands = there p o.triple ∙ o.stands;
          reached = o.reached;
        })
        (λ n o. record {
          triple = flip q o.triple;
          held = turned_held o.triple o.held o.fit;
          fit = turned_fit o.triple o.fit;
          stands = back q o.triple ∙ o.stands;
          reached = o.reached;
        })
        r (subst (λ (x : Meaning). Leapt x.has i w bound r) same l))

    pub leapt_subject : k ≡ Subject → (r : Option ℕ) → Leapt now.has Object w bound r
        → Leapt (turned p q m) k s bound r
    leapt_subject = leapt_turned Subject Object (λ n t. refl) (λ n t. refl)

    pub leapt_object : k ≡ Object → (r : Option ℕ) → Leapt now.has Subject w bound r
        → Leapt (turned p q m) k s bound r
    leapt_object = leapt_turned Object Subject (λ n t. refl) (λ n t. refl)

    pub leapt_property : k ≡ Property → (r : Option Triple) → Sought now.has w origin r → bound ≤ q
        → Leapt (turned p q m) k s bound (then_some (is_some r) q)
    leapt_property e r f h =
        subst (λ x. Leapt (turned p q m) x s bound (then_some (is_some r) q)) (sym e)
        (sought_property bound r (subst (λ (x : Meaning). Sought x.has w origin r) same f) h)

  -- seek

  module _ (start : Triple) (known : 1 ≤ s.subject) (bound : ℕ)
      (from : Some bound ≡ object_from q s.subject start) where
    low : object_from q s.subject start ≡ Some bound
    low = sym {a = Some bound} from

    offer_of_candidate : (t : Triple) → Candidate (turned p q m) s start t
        → Offer m.has Subject w bound t.object
    offer_of_candidate t c =
        let from = origin_from_turned t c.held c.fit in
        record {
          triple = flip p t;
          held = from.held;
          fit = from.fit;
          stands = refl;
          reached = reached_object q s start bound t low known c.fit from.named c.reached;
        }

    sought_none : Leapt m.has Subject w bound None → Sought (turned p q m) s start None
    sought_none none t c = none t.object (offer_of_candidate t c)

    least_subject : (x : ℕ) → Lowest m.has Subject w bound x
        → Least (turned p q m) s start (record { subject = s.subject; property = q; object = x })
    least_subject x l =
        let u = l.offer.triple in
        let is = swapped_subject p q m.top s w u x asked known l.offer.fit l.offer.stands in
        record {
          candidate = record {
            held = ap (turned p q m) is ∙ turned_held u l.offer.held l.offer.fit;
            fit = ap (matches s) is ∙ turned_fit u l.offer.fit;
            reached = object_reached q s start bound x low l.offer.reached;
          };
          first = λ t c.
              let named = (origin_from_turned t c.held c.fit).named in
              least_object q s t x known c.fit named (l.first t.object (offer_of_candidate t c));
        }

    pub sought_object_none : {now : Meaning} → now ≡ m → Leapt now.has Subject w bound None
        → Sought (turned p q m) s start None
    sought_object_none same l =
        sought_none (subst (λ (x : Meaning). Leapt x.has Subject w bound None) same l)

    pub sought_object : {now : Meaning} → now ≡ m → (x : ℕ) → Lowest now.has Subject w bound x
        → Least (turned p q m) s start (record { subject = s.subject; property = q; object = x })
    sought_object same x l =
        least_subject x (subst (λ (n : Meaning). Lowest n.has Subject w bound x) same l)

-- the least number at a position of a turned triple is a term
pub turned_term : (m : Meaning) (p q : ℕ) (k : Position) (s : Selector) (from n : ℕ) → 1 ≤ q → Sound m
    → Lowest (turned p q m) k s from n → (1 ≤ n) × (n ≤ largest_top)
turned_term m p q k s from n one sound =
    lowest_term (record { top = m.top; has = turned p q m }) k s from n (sound_turned p q m one sound)
