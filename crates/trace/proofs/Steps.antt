-- The levels of a trace: each has the terms that one step more leads to, and the first empty one is the last.
-- Assumes nothing.
use Rattle.std.proofs.Common.{◌≡◌, ℕ, zero, suc, ◌-◌, ◌<◌, ◌≤◌, Bool, true, false, ◌⊎◌, List, [], ◌∷◌, ◌++◌}
use Rattle.std.proofs.Common.{length, get_or, replicate, sym, refl, subst, subst₂, inl, inr, ⊎_elim, arith}
use Rattle.std.proofs.ByRecursion.{All-append, All-get_or, all-has, all_has_itself, All-weaker}
use Rattle.std.proofs.ByRecursion.{has_append_left, has_append_right, has_get_or, has_push, has_push_cases}
use Rattle.std.proofs.lemmas.List.{length-append, get_or_append_left, get_or-append_right}
use Rattle.std.proofs.lemmas.Bool.{both_ways, cases_lt}
use Rattle.std.specs.List.{ContainsAt as Has, AllByRecursion}
use Rattle.triples.specs.declared.triple.Triple.{Triple}
use Rattle.trace.specs.Levels.{From, Level}
use Rattle.trace.specs.Marks.{marked}
use Rattle.trace.specs.Steps.{Step, Reaches, Nearest, Nearer, Traced}
use Rattle.trace.proofs.Lists.{rises_strictly}
use Rattle.trace.proofs.Marks.{marked_none}

module _ (has : Triple → Bool) (a : ℕ) where
  -- k steps lead from a to x, and no smaller number of steps, 1 or more, does; 0 steps lead to a alone
  pub record Fresh (k x : ℕ) : Type 0 where
    pub path : Reaches has k a x
    pub first : (j : ℕ) → 1 ≤ j → j < k → Reaches has j a x → ⊥

  -- the least number of steps that lead from a to x is at most k
  pub record Close (k x : ℕ) : Type 0 where
    pub steps : ℕ
    pub few : steps ≤ k
    pub nearest : Nearest has steps a x

  -- reached is what at most k steps lead to, in order, and is what the marks mark; front is what k steps lead
  -- to, and no fewer
  pub record Layered (k : ℕ) (reached front : List ℕ) (marks : List Bool) : Type 0 where
    pub each : AllByRecursion (Close k) reached
    pub all : (j b : ℕ) → 1 ≤ j → j ≤ k → Reaches has j a b → Has reached b
    pub order : (i j d : ℕ) → i < j → j < length reached
        → Nearer has a (get_or reached i d) (get_or reached j d)
    pub seen : AllByRecursion (λ x. marked marks x ≡ true) reached
    pub listed : (x : ℕ) → marked marks x ≡ true → Has reached x
    pub last : (x : ℕ) → Has front x → Fresh k x
    pub whole : (x : ℕ) → Fresh k x → Has front x

  layered_none : (marks : List Bool) → ((x : ℕ) → marked marks x ≡ false) → Layered 0 [] (a ∷ []) marks
  layered_none marks none = record {
    each = tt;
    all = λ j b h k. absurd (omega arith);
    order = λ i j d h k. absurd (omega arith);
    seen = tt;
    listed = λ x h. absurd (both_ways (marked marks x) (none x) h);
    last = λ x h. record {
      path = ⊎_elim (λ k. let l = k.1 in absurd (omega arith)) (λ e. e) (has_push_cases [] a x h);
      first = λ j h k. absurd (omega arith);
    };
    whole = λ x f. subst (Has (a ∷ [])) f.path (has_push [] a);
  }

  nearest_fresh : (k x : ℕ) → Fresh (suc k) x → Nearest has (suc k) a x
  nearest_fresh k x f = record { some = omega arith; path = f.path; first = f.first }

  module _ (k : ℕ) (reached front : List ℕ) (marks : List Bool) (l : Layered k reached front marks) where
    -- where k steps lead to x, fewer do, or x is in front
    close_or_front : (x : ℕ) → Reaches has k a x → ((j : ℕ) × (j < k) × Nearest has j a x) ⊎ Has front x
    close_or_front x p =
        ⊎_elim
        (λ (some : 0 < k).
        let c = all-has (Close k) reached x l.each (l.all k x some (omega arith) p) in
        ⊎_elim (λ few. inl (c.steps, few, c.nearest))
        (λ many. inr (l.whole x (record {
          path = p;
          first = λ j h i. c.nearest.first j h (omega (arith, c.few, many, i));
        })))
        (cases_lt c.steps k))
        (λ none. inr (l.whole x (record { path = p; first = λ j h i. absurd (omega arith) })))
        (cases_lt 0 k)

    -- what one step more leads to is reached already, or one step from front
    reached_or_from : (b : ℕ) → Reaches has (suc k) a b → Has reached b ⊎ From has front b
    reached_or_from b (x, p, s) =
        ⊎_elim (λ (c : (j : ℕ) × (j < k) × Nearest has j a x).
        inl (l.all (suc c.0) b (omega arith) (omega (arith, c.1)) (x, c.2.path, s)))
        (λ h. inr (record { from = x; listed = h; step = s })) (close_or_front x p)

    module _ (new : List Bool) (next : List ℕ) (v : Level has front marks new next) where
      reached_or_next : (b : ℕ) → marked new b ≡ true → Has reached b ⊎ Has next b
      reached_or_next b h = ⊎_elim (λ k. inl (l.listed b k)) inr (v.gathered.fresh b h)

      fresh_next : (y : ℕ) → Has next y → Fresh (suc k) y
      fresh_next y h =
          let gain = all-has _ next y v.gathered.each h in
          let f = gain.wanted in
          record {
            path = (f.from, (l.last f.from f.listed).path, f.step);
            first = λ j one few p. both_ways (marked marks y) gain.before
                (all-has (λ x. marked marks x ≡ true) reached y l.seen (l.all j y one (omega arith) p));
          }

      next_fresh : (y : ℕ) → Fresh (suc k) y → Has next y
      next_fresh y f =
          let c : Has reached y → ⊥ = λ h. let c = all-has (Close k) reached y l.each h in
          f.first c.steps c.nearest.some (omega (arith, c.few)) c.nearest.path in
          ⊎_elim (λ h. absurd (c h))
          (λ g. ⊎_elim (λ h. absurd (c h)) (λ h. h) (reached_or_next y (v.gathered.all y g)))
          (reached_or_from y f.path)

      all_more : (j b : ℕ) → 1 ≤ j → j ≤ suc k → Reaches has j a b → Has (reached ++ next) b
      all_more j b one few p =
          ⊎_elim
          (λ (h : j < suc k). has_append_left reached next b (l.all j b one (omega arith) p))
          (λ h. let e : j ≡ suc k = omega arith in
          ⊎_elim (has_append_left reached next b)
          (λ g. ⊎_elim (has_append_left reached next b) (has_append_right reached next b)
          (reached_or_next b (v.gathered.all b g)))
          (reached_or_from b (subst (λ n. Reaches has n a b) e p)))
          (cases_lt j (suc k))

      nearest_next : (i d : ℕ) → i < length next → Nearest has (suc k) a (get_or next i d)
      nearest_next i d h =
          nearest_fresh k (get_or next i d) (fresh_next (get_or next i d) (has_get_or next i d h))

      nearer_next : (i j d : ℕ) → i < j → j < length next → Nearer has a (get_or next i d) (get_or next j d)
      nearer_next i j d h e = record {
        near = suc k;
        far = suc k;
        one = nearest_next i d (omega arith);
        other = nearest_next j d e;
        order = inr (refl, rises_strictly next v.rising v.gathered.once i j d h e);
      }

      nearer_reached : (i j d : ℕ) → i < length reached → j < length next
          → Nearer has a (get_or reached i d) (get_or next j d)
      nearer_reached i j d h e =
          let c = All-get_or (Close k) reached i d h l.each in
          record {
            near = c.steps;
            far = suc k;
            one = c.nearest;
            other = nearest_next j d e;
            order = inl (omega (arith, c.few));
          }

      order_more : (i j d : ℕ) → i < j → j < length (reached ++ next)
          → Nearer has a (get_or (reached ++ next) i d) (get_or (reached ++ next) j d)
      order_more i j d h e =
          let n = length reached in
          let long = length-append reached next in
          ⊎_elim
          (λ (low : j < n). subst₂ (Nearer has a) (sym (get_or_append_left reached next d i (omega arith)))
          (sym (get_or_append_left reached next d j low)) (l.order i j d h low))
          (λ (high : n ≤ j). ⊎_elim
          (λ (low : i < n). subst₂ (Nearer has a) (sym (get_or_append_left reached next d i low))
          (sym (get_or-append_right reached next n j d refl high))
          (nearer_reached i (j - n) d low (omega arith)))
          (λ (both : n ≤ i). subst₂ (Nearer has a) (sym (get_or-append_right reached next n i d refl both))
          (sym (get_or-append_right reached next n j d refl high))
          (nearer_next (i - n) (j - n) d (omega arith) (omega arith)))
          (cases_lt i n))
          (cases_lt j n)

      layered_more : Layered (suc k) (reached ++ next) next new
      layered_more = record {
        each = All-append (Close (suc k)) reached next
            (All-weaker _ _
            (λ x c. record { steps = c.steps; few = omega (arith, c.few); nearest = c.nearest })
            reached l.each)
            (All-weaker _ _
            (λ x h. record { steps = suc k; few = omega arith; nearest = nearest_fresh k x (fresh_next x h) })
            next (all_has_itself next));
        all = all_more;
        order = order_more;
        seen = All-append (λ x. marked new x ≡ true) reached next
            (All-weaker _ _ v.gathered.kept reached l.seen)
            (All-weaker _ _ (λ x e. e.after) next v.gathered.each);
        listed = λ x h.
            ⊎_elim (has_append_left reached next x) (has_append_right reached next x) (reached_or_next x h);
        last = fresh_next;
        whole = next_fresh;
      }

  -- past an empty level nothing is reached

  module _ (k : ℕ) (reached : List ℕ) (marks : List Bool) (l : Layered k reached [] marks) where
    none_fresh : (x : ℕ) → Fresh k x → ⊥
    none_fresh x f = let h = (l.whole x f).1 in omega arith

    has_step : (i y x : ℕ) → i < k → Reaches has i a y → Step has y x → Has reached x
    has_step i y x few p s = l.all (suc i) x (omega arith) (omega arith) (y, p, s)

    -- what some steps lead to, fewer than k lead to
    shorter : (j x : ℕ) → Reaches has j a x → (i : ℕ) × (i < k) × Reaches has i a x
    shorter zero x p =
        ⊎_elim (λ some. (0, some, p))
        (λ none. let e : 0 ≡ k = omega arith in
        absurd (none_fresh x (record {
          path = subst (λ n. Reaches has n a x) e p;
          first = λ j h few. absurd (omega arith);
        })))
        (cases_lt 0 k)
    shorter (suc j) x (y, p, s) =
        let q = shorter j y p in
        let c = all-has (Close k) reached x l.each (has_step q.0 y x q.1 q.2 s) in
        ⊎_elim (λ few. (c.steps, few, c.nearest.path))
        (λ many. let e : c.steps ≡ k = omega (arith, c.few, many) in
        absurd (none_fresh x (record {
          path = subst (λ n. Reaches has n a x) e c.nearest.path;
          first = λ i h few. c.nearest.first i h (omega (arith, e, few));
        })))
        (cases_lt c.steps k)

    all_reached : (j b : ℕ) → 1 ≤ j → Reaches has j a b → Has reached b
    all_reached zero b one p = absurd (omega arith)
    all_reached (suc j) b one (y, p, s) = let q = shorter j y p in has_step q.0 y b q.1 q.2 s

  layered_all : (k : ℕ) (reached : List ℕ) (marks : List Bool) → Layered k reached [] marks
      → Traced has a reached
  layered_all k reached marks l = record {
    each = All-weaker _ _
        (λ x c. record { steps = c.steps; some = c.nearest.some; path = c.nearest.path })
        reached l.each;
    all = λ b r. all_reached k reached marks l r.steps b r.some r.path;
    order = l.order;
  }

  -- the levels so far

  -- for some k, reached is what at most k steps lead to, and front what k steps lead to, and no fewer
  abbrev pub Layers : List ℕ → List ℕ → List Bool → Type 0
  Layers reached front marks = (k : ℕ) × Layered k reached front marks

  pub layers_none : {reached front : List ℕ} {marks : List Bool} (n : ℕ) → reached ≡ [] → front ≡ a ∷ []
      → marks ≡ replicate n false → Layers reached front marks
  layers_none {marks = marks} n e f h = (
    0,
    subst₂ (λ xs ys. Layered 0 xs ys marks) (sym e) (sym f)
        (subst (Layered 0 [] (a ∷ [])) (sym h) (layered_none (replicate n false) (marked_none n))),
  )

  pub layers_more : {reached front next more : List ℕ} {marks new after : List Bool}
      → Level has front marks new next → more ≡ reached ++ next → after ≡ new
      → Layers reached front marks → Layers more next after
  layers_more {reached} {front} {next} {marks = marks} {new = new} v e f (k, l) = (
    suc k,
    subst₂ (λ xs seen. Layered (suc k) xs next seen) (sym e) (sym f)
        (layered_more k reached front marks l new next v),
  )

  pub layers_all : {reached front : List ℕ} {marks : List Bool} → front ≡ [] → Layers reached front marks
      → Traced has a reached
  layers_all {reached} {marks = marks} e (k, l) =
      layered_all k reached marks (subst (λ xs. Layered k reached xs marks) e l)
