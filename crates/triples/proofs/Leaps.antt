-- Laws of leaping over an ordered list. Assumes nothing.
use Rattle.std.specs.List.{fold}
use Rattle.triples.proofs.Selectors.{passed_none}
use Rattle.std.proofs.Common.{◌≡◌, ℕ, ◌+◌, ◌<◌, Bool, true, false, ◌||◌, leb, List, [], ◌∷◌}
use Rattle.std.proofs.Common.{◌++◌, map}
use Rattle.std.proofs.Common.{length, get_or, take, drop, Some, None, Option, sym, refl, ap, ◌∙◌, subst}
use Rattle.std.proofs.Common.{◌≤◌, ap₂, ⊎_elim, arith}
use Rattle.std.proofs.lemmas.List.Folds.{fold-map}
use Rattle.std.proofs.lemmas.List.Sums.{fold_more}
use mathlib.Core.Path.{fun_ext}
use Rattle.std.proofs.lemmas.List.{append-nil, append_assoc, take-append-drop, map-append}
use Rattle.std.proofs.lemmas.List.{get_or-take, get_or-drop, length-take, length-drop}
use Rattle.std.proofs.lemmas.Bool.{both_ways, cases_Bool, leb-true, leb-false, cond-true, cond-false}
use Rattle.std.proofs.lemmas.Bool.{or_cases}
use Rattle.triples.specs.declared.position.Position.{Position}
use Rattle.triples.specs.declared.selector.Selector.{Selector}
use Rattle.triples.specs.declared.triple.Triple.{Triple}
use Rattle.triples.specs.Order.{before, same, value_at, number_from}
use Rattle.triples.specs.Selectors.{matches, floor, passed}
use Rattle.triples.specs.Meaning.{among}
use Rattle.triples.specs.Seeks.{Leapt}
use Rattle.triples.specs.Unions.{union, lesser}
use Rattle.triples.specs.Finding.{Split, offer_of}
use Rattle.triples.proofs.FirstMatches.{Silent}
use Rattle.triples.proofs.Order.{before_itself, same_is, same_itself}
use Rattle.triples.proofs.Selectors.{floor_reached}
use Rattle.triples.specs.Laws.{among-append}
use Rattle.triples.proofs.Meaning.{among_place}
use Rattle.triples.proofs.Unions.{leapt_union, lesser_none}

module _ (p : Position) (s : Selector) (bound : ℕ) where
  -- sets with the same elements

  pub leapt_like : (A B : Triple → Bool) (r : Option ℕ) → ((t : Triple) → A t ≡ B t) → Leapt A p s bound r
      → Leapt B p s bound r
  leapt_like A B r same l = subst (λ has. Leapt has p s bound r) (fun_ext same) l

  -- one triple

  only : (t u : Triple) → among (t ∷ []) u ≡ true → t ≡ u
  only t u h = ⊎_elim (same_is t u) (λ e. absurd (both_ways false refl e)) (or_cases (same t u) false h)

  pub leapt_one : (t : Triple) → Leapt (among (t ∷ [])) p s bound (offer_of t p s bound)
  leapt_one t =
      ⊎_elim
      (λ m. ⊎_elim
      (λ high. subst (Leapt (among (t ∷ [])) p s bound)
      (sym (cond-true (matches s t) (number_from p bound (Some t)) None m
      ∙ cond-true (leb bound (value_at p t)) (Some (value_at p t)) None high))
      (record {
        offer = record {
          triple = t;
          held = ap (λ b. b || false) (same_itself t);
          fit = m;
          stands = refl;
          reached = leb-true bound (value_at p t) high;
        };
        first = λ k o. let e = ap (value_at p) (only t o.triple o.held) in
            let at = o.stands in omega (arith, e, at);
      }))
      (λ low. subst (Leapt (among (t ∷ [])) p s bound)
      (sym (cond-true (matches s t) (number_from p bound (Some t)) None m
      ∙ cond-false (leb bound (value_at p t)) (Some (value_at p t)) None low))
      (λ k o. let e = ap (value_at p) (only t o.triple o.held) in
      let at = o.stands in
      let reached = o.reached in
      let under = leb-false bound (value_at p t) low in absurd (omega (arith, e, at, reached, under))))
      (cases_Bool (leb bound (value_at p t))))
      (λ m. subst (Leapt (among (t ∷ [])) p s bound)
      (sym (cond-false (matches s t) (number_from p bound (Some t)) None m))
      (λ k o. both_ways (matches s t) m
      (subst (λ u. matches s u ≡ true) (sym (only t o.triple o.held)) o.fit)))
      (cases_Bool (matches s t))

  -- lists

  pub leapt_append : (xs ys : List Triple) (a b : Option ℕ) → Leapt (among xs) p s bound a
      → Leapt (among ys) p s bound b → Leapt (among (xs ++ ys)) p s bound (lesser a b)
  leapt_append xs ys a b f g =
      leapt_like (union (among xs) (among ys)) (among (xs ++ ys)) (lesser a b)
      (λ t. sym (among-append xs ys t))
      (leapt_union (among xs) (among ys) p s bound a b f g)

  -- the lesser of a number and what a triple offers
  abbrev pub better : Option ℕ → Triple → Option ℕ
  better least t = lesser least (offer_of t p s bound)

  -- going on from what some triples offer
  leapt_on : (ys ts : List Triple) (a : Option ℕ) → Leapt (among ys) p s bound a
      → Leapt (among (ys ++ ts)) p s bound (fold better a ts)
  leapt_on ys [] a f = subst (λ us. Leapt (among us) p s bound a) (sym (append-nil ys)) f
  leapt_on ys (t ∷ ts) a f =
      subst (λ us. Leapt (among us) p s bound (fold better (better a t) ts)) (append_assoc ys (t ∷ []) ts)
      (leapt_on (ys ++ t ∷ []) ts (better a t)
      (leapt_append ys (t ∷ []) a (offer_of t p s bound) f (leapt_one t)))

  pub leapt_offers : (ts : List Triple) → Leapt (among ts) p s bound (fold better None ts)
  leapt_offers ts = leapt_on [] ts None (λ k o. both_ways false refl o.held)

  module _ {X : Type 0} (triple : X → Triple) where
    pub leapt_silent : (xs : List X) → Silent triple xs s 0 (length xs)
        → Leapt (among (map triple xs)) p s bound None
    leapt_silent xs silent k o =
        let at = among_place triple xs o.triple o.held in
        both_ways (matches s o.triple)
        (subst (λ t. matches s t ≡ false) (at.is at.element)
        (silent at.at at.element (omega arith) at.inside))
        o.fit

    module _ (xs : List X) where
      pub leapt_none : (n : ℕ) → Split triple xs (floor s) n
          → Leapt (among (map triple (take n xs))) p s bound None
      leapt_none n split =
          leapt_silent (take n xs) (λ k d low inside.
          let len = length-take n xs in
          let within = split.inside in
          let under : k < n = omega (arith, inside, len, within) in
          ⊎_elim
          (λ m. absurd (both_ways (before (triple (get_or xs k d)) (floor s))
          (floor_reached s (triple (get_or xs k d))
          (subst (λ x. matches s (triple x) ≡ true) (get_or-take n xs k d under) m))
          (split.below k d under)))
          (λ m. m)
          (cases_Bool (matches s (triple (get_or (take n xs) k d)))))

      -- from a place behind which nothing matches, the elements up to it decide
      leapt_rest : (n : ℕ) (least : Option ℕ) → Silent triple xs s n (length xs)
          → Leapt (among (map triple (take n xs))) p s bound least
          → Leapt (among (map triple xs)) p s bound least
      leapt_rest n least silent f =
          subst (λ ts. Leapt (among ts) p s bound least)
          (sym (map-append triple (take n xs) (drop n xs)) ∙ ap (map triple) (take-append-drop n xs))
          (subst (Leapt (among (map triple (take n xs) ++ map triple (drop n xs))) p s bound)
          (lesser_none least)
          (leapt_append (map triple (take n xs)) (map triple (drop n xs)) least None f
          (leapt_silent (drop n xs) (λ k d low inside.
          let len = length-drop n xs in
          subst (λ x. matches s (triple x) ≡ false) (sym (get_or-drop n xs k d))
          (silent (n + k) d (omega arith) (omega (arith, inside, len)))))))

      -- from a place before which nothing matches, the elements from it on decide
      leapt_begun : (n : ℕ) (least : Option ℕ) → Split triple xs (floor s) n
          → Leapt (among (map triple (drop n xs))) p s bound least
          → Leapt (among (map triple xs)) p s bound least
      leapt_begun n least split f =
          subst (λ ts. Leapt (among ts) p s bound least)
          (sym (map-append triple (take n xs) (drop n xs)) ∙ ap (map triple) (take-append-drop n xs))
          (leapt_append (map triple (take n xs)) (map triple (drop n xs)) None least (leapt_none n split) f)

    -- one triple more is gone over
    pub better_more : (xs : List X) (i : ℕ) (x : X) → i < length xs → x ≡ get_or xs i x
        → fold better None (map triple (take (i + 1) xs))
        ≡ better (fold better None (map triple (take i xs))) (triple x)
    better_more xs i x inside e =
        fold-map better triple None (take (i + 1) xs)
        ∙ fold_more (λ a y. better a (triple y)) None xs i x inside
        ∙ ap₂ better (sym (fold-map better triple None (take i xs))) (ap triple (sym e))

    -- the smallest number that n triples from the floor on offer, where those behind them are passed
    pub leapt_until : (xs : List X) (from n : ℕ) → Split triple xs (floor s) from
        → ((k : ℕ) (d : X) → from + n ≤ k → k < length xs → passed s (triple (get_or xs k d)) ≡ true)
        → Leapt (among (map triple xs)) p s bound (fold better None (map triple (take n (drop from xs))))
    leapt_until xs from n split end =
        let least = fold better None (map triple (take n (drop from xs))) in
        leapt_begun xs from least split
        (leapt_rest (drop from xs) n least
        (λ k d low high. let len = length-drop from xs in
        let t = triple (get_or (drop from xs) k d) in
        passed_none s t t
        (subst (λ x. passed s (triple x) ≡ true) (sym (get_or-drop from xs k d))
        (end (from + k) d (omega (arith, low)) (omega (arith, high, len))))
        (before_itself t))
        (leapt_offers (map triple (take n (drop from xs)))))

    -- what n triples from the floor on offer decides, where no triple stands behind them, or those are passed
    pub leapt_gone : (xs ys : List X) (from n : ℕ) (least : Option ℕ) → Split triple xs (floor s) from
        → ys ≡ drop from xs → least ≡ fold better None (map triple (take n ys))
        → ((k : ℕ) (d : X) → from + n ≤ k → k < length xs → passed s (triple (get_or xs k d)) ≡ true)
        → Leapt (among (map triple xs)) p s bound least
    leapt_gone xs ys from n least split e is end = rw (is, e) (leapt_until xs from n split end)
