-- Laws of searching an ordered list. Assumes nothing.
use Rattle.std.proofs.Common.{◌≡◌, ℕ, zero, suc, ◌+◌, ◌-◌, ◌<◌, ◌≤◌, true, false, cond, not, List, [], ◌∷◌}
use Rattle.std.proofs.Common.{map, length, drop, get_or, Some, None, Option, sym, refl, ap, ◌∙◌, subst}
use Rattle.std.proofs.Common.{subst₂}
use Rattle.std.proofs.Common.{⊎_elim, arith}
use Rattle.std.specs.Prelude.{find, take_while}
use Rattle.std.proofs.lemmas.List.{length-drop, get_or-drop}
use Rattle.std.proofs.lemmas.List.Sums.{take_while-cons}
use Rattle.std.specs.List.Sorted.{IsPartitionedBy, IsPartitionPoint}
use Rattle.std.proofs.lemmas.Bool.{both_ways, cases_Bool, cases_eq}
use Rattle.std.proofs.lemmas.Bool.{cases_lt, cond_both, cond-true, cond-false}
use Rattle.triples.specs.declared.selector.Selector.{Selector}
use Rattle.triples.specs.declared.triple.Triple.{Triple}
use Rattle.triples.specs.Order.{before}
use Rattle.triples.specs.Selectors.{matches, floor, passed}
use Rattle.triples.specs.Meaning.{among}
use Rattle.triples.specs.Seeks.{Candidate, Sought}
use Rattle.triples.specs.Tables.{Ordered}
use Rattle.triples.specs.Finding.{Split, later}
use Rattle.triples.proofs.FirstMatches.{Silent, Met, reachable}
use Rattle.triples.proofs.Lists.{first_of}
use Rattle.triples.proofs.Selectors.{floor_reached, passed_none, passed_upto}
use Rattle.triples.proofs.Meaning.{Place, among_place, at_among}
use Rattle.triples.proofs.Order.{before_itself, before_trans, upto_trans, upto_before}

module _ {X : Type 0} (triple : X → Triple) (xs : List X) (ordered : Ordered triple xs) where
  -- an element is before each one behind it
  ordered_later : (i n : ℕ) (d : X) → i + suc n < length xs
      → before (triple (get_or xs i d)) (triple (get_or xs (i + suc n) d)) ≡ true
  ordered_later i zero d h = ordered i d h
  ordered_later i (suc n) d h =
      before_trans (triple (get_or xs i d)) (triple (get_or xs (i + suc n) d))
      (triple (get_or xs (i + suc (suc n)) d))
      (ordered_later i n d (omega (arith, h)))
      (subst (λ k. before (triple (get_or xs (i + suc n) d)) (triple (get_or xs k d)) ≡ true) (omega arith)
      (ordered (i + suc n) d (omega (arith, h))))

  pub ordered_far : (i k : ℕ) (d : X) → i < k → k < length xs
      → before (triple (get_or xs i d)) (triple (get_or xs k d)) ≡ true
  ordered_far i k d h n =
      subst (λ j. before (triple (get_or xs i d)) (triple (get_or xs j d)) ≡ true) (omega (arith, h))
      (ordered_later i (k - i - 1) d (omega (arith, h, n)))

  pub ordered_upto : (i k : ℕ) (d : X) → i ≤ k → k < length xs
      → before (triple (get_or xs k d)) (triple (get_or xs i d)) ≡ false
  ordered_upto i k d h n =
      ⊎_elim
      (λ e. subst (λ j. before (triple (get_or xs k d)) (triple (get_or xs j d)) ≡ false) e
      (before_itself (triple (get_or xs k d))))
      (λ ne. upto_before (triple (get_or xs i d)) (triple (get_or xs k d))
      (ordered_far i k d (omega (arith, h, ne)) n))
      (cases_eq k i)

  -- the elements from a place on ascend too
  pub ordered_dropped : (from : ℕ) → Ordered triple (drop from xs)
  ordered_dropped from k d h =
      let len = length-drop from xs in
      let next : from + k + 1 ≡ from + (k + 1) = omega arith in
      subst₂ (λ x y. before (triple x) (triple y) ≡ true) (sym (get_or-drop from xs k d))
      (ap (λ j. get_or xs j d) next ∙ sym (get_or-drop from xs (k + 1) d))
      (ordered (from + k) d (omega (arith, h, len)))

  -- the elements before a start come first
  pub partitioned : (start : Triple) → IsPartitionedBy (λ x. before (triple x) start) xs
  partitioned start i k d h n e =
      ⊎_elim (λ same. subst (λ j. before (triple (get_or xs j d)) start ≡ true) (sym same) e)
      (λ ne. before_trans (triple (get_or xs i d)) (triple (get_or xs k d)) start
      (ordered_far i k d (omega (arith, h, ne)) n) e)
      (cases_eq i k)

  -- the elements that are not passed come first
  partitioned_passed : (s : Selector) → IsPartitionedBy (λ x. not (passed s (triple x))) xs
  partitioned_passed s i k d h n e =
      passed_upto s (triple (get_or xs i d)) (triple (get_or xs k d)) e (ordered_upto i k d h n)

  -- where an element is passed, so is each one behind it
  pub passed_behind : (s : Selector) (i k : ℕ) (d : X) → passed s (triple (get_or xs i d)) ≡ true → i ≤ k
      → k < length xs → passed s (triple (get_or xs k d)) ≡ true
  passed_behind s i k d e low high =
      ⊎_elim (λ yes. yes)
      (λ no. absurd (both_ways (not (passed s (triple (get_or xs i d)))) (ap not e)
      (partitioned_passed s i k d low high (ap not no))))
      (cases_Bool (passed s (triple (get_or xs k d))))

-- the place up to which an element is before the start splits the list
pub split_point : {X : Type 0} (triple : X → Triple) (xs : List X) (start : Triple) (i : ℕ) → i ≤ length xs
    → IsPartitionPoint (λ x. before (triple x) start ≡ true) (λ x. before (triple x) start ≡ false) xs i
    → Split triple xs start i
split_point triple xs start i h p = record {
  inside = h;
  below = λ k d l. p.0 k d (omega arith) l;
  behind = λ k d l m. p.1 k d l m;
}

-- seek

-- the triple matches the selector and is not below the start
pub record Suits (s : Selector) (start t : Triple) : Type 0 where
  pub fit : matches s t ≡ true
  pub reached : before t start ≡ false

pub later_reached : (s : Selector) (start t : Triple) → Suits s start t
    → before t (later start (floor s)) ≡ false
later_reached s start t u =
    let high = floor_reached s t u.fit in
    let reached = u.reached in
    cond_both (before start (floor s)) (floor s) start (λ x. before t x ≡ false) (λ _. high) (λ _. reached)

pub later_start : (s : Selector) (start t : Triple) → before t (later start (floor s)) ≡ false
    → before t start ≡ false
later_start s start t h =
    ⊎_elim
    (λ e. upto_trans start (floor s) t (upto_before start (floor s) e)
    (subst (λ x. before t x ≡ false) (cond-true (before start (floor s)) (floor s) start e) h))
    (λ e. subst (λ x. before t x ≡ false) (cond-false (before start (floor s)) (floor s) start e) h)
    (cases_Bool (before start (floor s)))

-- the first triple that matches

module _ {X : Type 0} (triple : X → Triple) (s : Selector) where
  reach : List Triple → List Triple
  reach ts = take_while (λ t. not (passed s t)) ts

  met_head : (x : X) (xs : List X) → matches s (triple x) ≡ true → Met triple (x ∷ xs) s 0 (Some (triple x))
  met_head x xs fit = record {
    at = 0;
    behind = omega arith;
    inside = omega arith;
    is = λ d. refl;
    fit = fit;
    silent = λ k d low high. absurd (omega (arith, high));
  }

  silent_next : (x : X) (xs : List X) (n : ℕ) → matches s (triple x) ≡ false → Silent triple xs s 0 n
      → Silent triple (x ∷ xs) s 0 (suc n)
  silent_next x xs n unlike m zero d low high = unlike
  silent_next x xs n unlike m (suc k) d low high = m k d (omega arith) (omega (arith, high))

  met_next : (x : X) (xs : List X) → matches s (triple x) ≡ false → (r : Option Triple) → Met triple xs s 0 r
      → Met triple (x ∷ xs) s 0 r
  met_next x xs unlike None m = silent_next x xs (length xs) unlike m
  met_next x xs unlike (Some t) m = record {
    at = suc m.at;
    behind = omega arith;
    inside = omega (arith, m.inside);
    is = m.is;
    fit = m.fit;
    silent = silent_next x xs m.at unlike m.silent;
  }

  met_first : (xs : List X) → Ordered triple xs → Met triple xs s 0 (find (matches s) (reach (map triple xs)))
  unfolding reach
  met_first [] ordered = λ k d low high. absurd (omega (arith, high))
  met_first (x ∷ xs) ordered =
      let next = take_while-cons (λ t. not (passed s t)) (triple x) (map triple xs) in
      let found : List Triple → Option Triple = λ ts. find (matches s) ts in
      let after : Ordered triple xs = λ k d l.
      let next : suc k + 1 ≡ suc (k + 1) = omega arith in
      subst (λ j. before (triple (get_or xs k d)) (triple (get_or (x ∷ xs) j d)) ≡ true) next
      (ordered (suc k) d (omega (arith, l))) in
      ⊎_elim
      (λ p. subst (λ ts. Met triple (x ∷ xs) s 0 (found ts))
      (sym (next ∙ ap (λ b. cond (not b) (triple x ∷ reach (map triple xs)) []) p))
      (λ k d low high. passed_none s (triple x) (triple (get_or (x ∷ xs) k d)) p
      (ordered_upto triple (x ∷ xs) ordered 0 k d (omega arith) high)))
      (λ p. subst (λ ts. Met triple (x ∷ xs) s 0 (found ts))
      (sym (next ∙ ap (λ b. cond (not b) (triple x ∷ reach (map triple xs)) []) p))
      (⊎_elim
      (λ m. subst (Met triple (x ∷ xs) s 0)
      (sym (cond-true (matches s (triple x)) (Some (triple x)) (found (reach (map triple xs))) m))
      (met_head x xs m))
      (λ m. subst (Met triple (x ∷ xs) s 0)
      (sym (cond-false (matches s (triple x)) (Some (triple x)) (found (reach (map triple xs))) m))
      (met_next x xs m (found (reach (map triple xs))) (met_first xs after)))
      (cases_Bool (matches s (triple x)))))
      (cases_Bool (passed s (triple x)))

  met_dropped : (xs : List X) (from : ℕ) → from ≤ length xs → (r : Option Triple)
      → Met triple (drop from xs) s 0 r → Met triple xs s from r
  met_dropped xs from h None m = λ k d low high.
      let len = length-drop from xs in
      subst (λ j. matches s (triple (get_or xs j d)) ≡ false) (omega (arith, low))
      (subst (λ x. matches s (triple x) ≡ false) (get_or-drop from xs (k - from) d)
      (m (k - from) d (omega arith) (omega (arith, low, high, len))))
  met_dropped xs from h (Some t) m = record {
    at = from + m.at;
    behind = omega arith;
    inside = let inside = m.inside in
        let len = length-drop from xs in omega (arith, inside, len);
    is = λ d. subst (λ x. triple x ≡ t) (get_or-drop from xs m.at d) (m.is d);
    fit = m.fit;
    silent = λ k d low high.
        subst (λ j. matches s (triple (get_or xs j d)) ≡ false) (omega (arith, low))
        (subst (λ x. matches s (triple x) ≡ false) (get_or-drop from xs (k - from) d)
        (m.silent (k - from) d (omega arith) (omega (arith, low, high))));
  }

  pub met_reachable : (xs : List X) → Ordered triple xs → (from : ℕ) → from ≤ length xs
      → Met triple xs s from (find (matches s) (reachable triple xs s from))
  unfolding reach
  met_reachable xs ordered from h =
      met_dropped xs from h (find (matches s) (reachable triple xs s from))
      (met_first (drop from xs) (ordered_dropped triple xs ordered from))

module _ {X : Type 0} (triple : X → Triple) (xs : List X) (s : Selector) where
  module _ (start : Triple) (from : ℕ) (split : Split triple xs (later start (floor s)) from) where
    -- a candidate stands behind the split
    candidate_behind : (u : Triple) → Candidate (among (map triple xs)) s start u → (p : Place triple xs u)
        → from ≤ p.at
    candidate_behind u c p =
        ⊎_elim
        (λ low. absurd (both_ways (before u (later start (floor s)))
        (later_reached s start u (record { fit = c.fit; reached = c.reached }))
        (subst (λ t. before t (later start (floor s)) ≡ true) (p.is p.element)
        (split.below p.at p.element low))))
        (λ high. high)
        (cases_lt p.at from)

    sought_from_met : Ordered triple xs → (r : Option Triple) → Met triple xs s from r
        → Sought (among (map triple xs)) s start r
    sought_from_met ordered None silent = λ u c.
        let p = among_place triple xs u c.held in
        let d = p.element in
        both_ways (matches s u)
        (subst (λ t. matches s t ≡ false) (p.is d) (silent p.at d (candidate_behind u c p) p.inside))
        c.fit
    sought_from_met ordered (Some t) f = record {
      candidate = record {
        held = at_among triple xs f.at t f.inside f.is;
        fit = f.fit;
        reached = at_reached t f.at f.behind f.inside f.is;
      };
      first = λ u c. let p = among_place triple xs u c.held in
          let d = p.element in
          ⊎_elim
          (λ low. absurd (both_ways (matches s u)
          (subst (λ t. matches s t ≡ false) (p.is d) (f.silent p.at d (candidate_behind u c p) low))
          c.fit))
          (λ high. subst₂ (λ a b. before a b ≡ false) (p.is d) (f.is d)
          (ordered_upto triple xs ordered f.at p.at d high p.inside))
          (cases_lt p.at f.at);
    }
      where
        at_reached : (t : Triple) (i : ℕ) → from ≤ i → i < length xs → ((d : X) → triple (get_or xs i d) ≡ t)
            → before t start ≡ false
        at_reached t i h l is =
            let d = first_of xs i l in
            later_start s start t
            (subst (λ u. before u (later start (floor s)) ≡ false) (is d) (split.behind i d h l))

    pub sought_reachable : Ordered triple xs
        → Sought (among (map triple xs)) s start (find (matches s) (reachable triple xs s from))
    sought_reachable ordered = sought_from_met ordered (find (matches s) (reachable triple xs s from))
        (met_reachable triple s xs ordered from split.inside)
