-- The order in which answers come is total. Assumes nothing.
--     Ahead k parts r s     Before, of a list of parts counted from k
use Rattle.std.proofs.Common.{◌≡◌, ℕ, ◌+◌, ◌<◌, true, ◌⊎◌, List, [], ◌∷◌, length, slice_index_or, Option}
use Rattle.std.proofs.Common.{Some, None, inl, inr, ⊎_elim, refl, sym, ap, ◌∙◌, subst, subst₂, lt_trans}
use Rattle.std.proofs.Common.{arith}
use Rattle.std.proofs.lemmas.Bool.{cases_Bool, cases_eq, cases_lt}
use Rattle.catalogue.specs.Entries.{Entry}
use Rattle.query.specs.declared.pattern.TriplePattern.{TriplePattern}
use Rattle.query.specs.Lawful.{mentions}
use Rattle.query.specs.Limits.{variables}
use Rattle.query.specs.Parts.{Group}
use Rattle.triples.specs.Meaning.{Meaning}
use Rattle.filter.specs.Rows.{Row, none, value}
use Rattle.algebra.specs.Answers.{Answer}
use Rattle.algebra.specs.Order.{parts_of, first_part_from, first_part, no_group, Before, Precedes}
use Rattle.algebra.specs.Words.{Answered}
use Rattle.algebra.specs.Theorems.{OrderIsTotal}
use Rattle.algebra.proofs.Rows.{row_from_values, answer_from_parts}
use Rattle.algebra.proofs.Lexical.{Lowest, lowest-cases}
use Rattle.algebra.proofs.Owners.{first_part_from-yes, first_part_from-no, held_from_part, held_from_first}

-- among rows over the parts, of which the first has the number k, r comes before s
pub record Ahead (k : ℕ) (parts : List (List TriplePattern)) (r s : Row) : Type 0 where
  pub part : ℕ
  pub variable : ℕ
  pub own : first_part_from variable k parts ≡ Some part
  pub smaller : value r variable < value s variable
  pub earlier : (w p : ℕ) → first_part_from w k parts ≡ Some p → p < part → value r w ≡ value s w
  pub lower : (w : ℕ) → first_part_from w k parts ≡ Some part → w < variable → value r w ≡ value s w

pub before_from_ahead : (g : Group) (r s : Row) → Ahead 0 (parts_of g) r s → Before g r s
before_from_ahead g r s a = record {
  part = a.part;
  variable = a.variable;
  own = a.own;
  smaller = a.smaller;
  earlier = a.earlier;
  lower = a.lower;
}

module _ (k : ℕ) (ts : List TriplePattern) (parts : List (List TriplePattern)) (r s : Row) where
  -- the rows differ first within the first part
  pub ahead_from_lowest : Lowest (λ v. mentions v ts) r s → Ahead k (ts ∷ parts) r s
  ahead_from_lowest l = record {
    part = k;
    variable = l.variable;
    own = first_part_from-yes l.variable k ts parts l.own;
    smaller = l.smaller;
    earlier = λ w p e h. let (i, at, _, _) = held_from_part w k (ts ∷ parts) p e in
        absurd (omega (arith, h, at));
    lower = λ w e h. l.lower w (held_from_first w k ts parts e) h;
  }

  -- the rows do not differ within the first part
  module _ (same : (v : ℕ) → mentions v ts ≡ true → value r v ≡ value s v) where
    same-unless : (w : ℕ) (is : Option ℕ) → first_part_from w k (ts ∷ parts) ≡ is
        → (first_part_from w (k + 1) parts ≡ is → value r w ≡ value s w) → value r w ≡ value s w
    same-unless w is e later =
        ⊎_elim (same w) (λ f. later (sym (first_part_from-no w k ts parts f) ∙ e))
        (cases_Bool (mentions w ts))

    pub ahead_from_later : Ahead (k + 1) parts r s → Ahead k (ts ∷ parts) r s
    ahead_from_later a = record {
      part = a.part;
      variable = a.variable;
      own = ⊎_elim
          (λ t. let e = same a.variable t in absurd (omega (arith, a.smaller)))
          (λ f. first_part_from-no a.variable k ts parts f ∙ a.own)
          (cases_Bool (mentions a.variable ts));
      smaller = a.smaller;
      earlier = λ w p e h. same-unless w (Some p) e (λ o. a.earlier w p o h);
      lower = λ w e h. same-unless w (Some a.part) e (λ o. a.lower w o h);
    }

-- Before

-- the variable w of part p comes before the variable v of part k
abbrev Sooner : ℕ → ℕ → ℕ → ℕ → Type 0
Sooner p w k v = (p < k) ⊎ ((p ≡ k) × (w < v))

sooner_from_two : (p w k v l u : ℕ) → Sooner p w k v → Sooner k v l u → Sooner p w l u
sooner_from_two p w k v l u a b =
    ⊎_elim
    (λ i. ⊎_elim (λ j. inl (omega (arith, i, j))) (λ j. inl (omega (arith, i, j.0))) b)
    (λ i. ⊎_elim
    (λ j. inl (omega (arith, i.0, j)))
    (λ j. inr (omega (arith, i.0, j.0), omega (arith, i.1, j.1)))
    b)
    a

sooner-cases : (p w k v : ℕ) → Sooner p w k v ⊎ (Sooner k v p w ⊎ ((p ≡ k) × (w ≡ v)))
sooner-cases p w k v =
    ⊎_elim
    (λ l. inl (inl l))
    (λ l. ⊎_elim
    (λ e. ⊎_elim
    (λ i. inl (inr (e, i)))
    (λ i. ⊎_elim
    (λ j. inr (inr (e, j)))
    (λ n. inr (inl (inr (omega (arith, e), omega (arith, i, n)))))
    (cases_eq w v))
    (cases_lt w v))
    (λ n. inr (inl (inl (omega (arith, l, n)))))
    (cases_eq p k))
    (cases_lt p k)

module _ (g : Group) where
  pub before-never : (r : Row) → Before g r r → ⊥
  before-never r b = omega (arith, b.smaller)

  -- the rows agree at each variable that comes before the one at which they differ first
  equal_from_before : (r s : Row) (b : Before g r s) (w p : ℕ) → first_part g w ≡ Some p
      → Sooner p w b.part b.variable → value r w ≡ value s w
  equal_from_before r s b w p own =
      ⊎_elim (b.earlier w p own) (λ h. b.lower w (own ∙ ap (λ k. Some k) h.0) h.1)

  module _ (r s t : Row) (b : Before g r s) (c : Before g s t) where
    -- r is smaller than t at the variable v of part k, before which all three agree
    before_from_both : (k v : ℕ) → first_part g v ≡ Some k → value r v < value t v
        → ((w p : ℕ) → Sooner p w k v → Sooner p w b.part b.variable × Sooner p w c.part c.variable)
        → Before g r t
    before_from_both k v own smaller both = record {
      part = k;
      variable = v;
      own = own;
      smaller = smaller;
      earlier = λ w p o h. agree w p o (both w p (inl h));
      lower = λ w o h. agree w k o (both w k (inr (refl, h)));
    }
      where
        agree : (w p : ℕ) → first_part g w ≡ Some p
            → Sooner p w b.part b.variable × Sooner p w c.part c.variable → value r w ≡ value t w
        agree w p o l = equal_from_before r s b w p o l.0 ∙ equal_from_before s t c w p o l.1

    before_from_two : Before g r t
    before_from_two =
        ⊎_elim
        (λ h. let same = equal_from_before s t c b.variable b.part b.own h in
        before_from_both b.part b.variable b.own (omega (arith, b.smaller, same))
        (λ w p l. (l, sooner_from_two p w b.part b.variable c.part c.variable l h)))
        (⊎_elim
        (λ h. let same = equal_from_before r s b c.variable c.part c.own h in
        before_from_both c.part c.variable c.own (omega (arith, c.smaller, same))
        (λ w p l. (sooner_from_two p w c.part c.variable b.part b.variable l h, l)))
        (λ h. before_from_both b.part b.variable b.own
        (lt_trans b.smaller (subst (λ v. value s v < value t v) (sym h.1) c.smaller))
        (λ w p l. (l, subst₂ (λ k v. Sooner p w k v) h.0 h.1 l))))
        (sooner-cases b.part b.variable c.part c.variable)

-- rows that agree at the variables of all parts, or one of them comes first

module _ (r s : Row) (one : length r ≡ variables) (two : length s ≡ variables) where
  -- part by part: the first at whose variables the rows do not agree decides
  ahead-cases : (k : ℕ) (parts : List (List TriplePattern))
      → ((v p : ℕ) → first_part_from v k parts ≡ Some p → value r v ≡ value s v)
      ⊎ (Ahead k parts r s ⊎ Ahead k parts s r)
  ahead-cases k [] = inl (λ v p e. absurd cc)
  ahead-cases k (ts ∷ parts) =
      ⊎_elim
      (λ same. ⊎_elim
      (λ rest. inl (λ v p e. same-unless k ts parts r s same v (Some p) e (rest v p)))
      (⊎_elim
      (λ a. inr (inl (ahead_from_later k ts parts r s same a)))
      (λ a. inr (inr (ahead_from_later k ts parts s r (λ v t. sym (same v t)) a))))
      (ahead-cases (k + 1) parts))
      (⊎_elim
      (λ l. inr (inl (ahead_from_lowest k ts parts r s l)))
      (λ l. inr (inr (ahead_from_lowest k ts parts s r l))))
      (lowest-cases (λ v. mentions v ts) r s one two)

  -- rows that have no values elsewhere
  before-cases : (g : Group) → ((v : ℕ) → first_part g v ≡ None → value r v ≡ none)
      → ((v : ℕ) → first_part g v ≡ None → value s v ≡ none) → (r ≡ s) ⊎ (Before g r s ⊎ Before g s r)
  before-cases g h k =
      ⊎_elim
      (λ same. let by : (v : ℕ) (o : Option ℕ) → first_part g v ≡ o → value r v ≡ value s v =
      (λ v o. elim o as (λ o. first_part g v ≡ o → value r v ≡ value s v)
      [ None ↦ λ e. h v e ∙ sym (k v e) | Some p ↦ λ e. same v p e ]) in
      inl (row_from_values r s (one ∙ sym two) (λ v. by v (first_part g v) refl)))
      (⊎_elim (λ a. inr (inl (before_from_ahead g r s a))) (λ a. inr (inr (before_from_ahead g s r a))))
      (ahead-cases 0 (parts_of g))

-- Precedes

module _ (q : List Group) where
  -- the alternative of an answer
  abbrev group : ℕ → Group
  group n = slice_index_or q n no_group

  pub precedes-never : (a : Answer) → Precedes q a a → ⊥
  precedes-never a = ⊎_elim (λ l. omega (arith, l)) (λ b. before-never (group a.alternative) a.row b.1)

  precedes_from_two : (a b c : Answer) → Precedes q a b → Precedes q b c → Precedes q a c
  precedes_from_two a b c h k =
      ⊎_elim
      (λ i. ⊎_elim (λ j. inl (omega (arith, i, j))) (λ j. inl (omega (arith, i, j.0))) k)
      (λ i. ⊎_elim (λ j. inl (omega (arith, i.0, j)))
      (λ j. inr (
        i.0 ∙ j.0,
        before_from_two (group a.alternative) a.row b.row c.row i.1
            (subst (λ n. Before (group n) b.row c.row) (sym i.0) j.1),
      )) k)
      h

  module _ (m : Meaning) (e : ℕ → Entry) where
    precedes-cases : (a b : Answer) → Answered m e (group a.alternative) a.row
        → Answered m e (group b.alternative) b.row → (a ≡ b) ⊎ (Precedes q a b ⊎ Precedes q b a)
    precedes-cases a b h k =
        ⊎_elim
        (λ l. inr (inl (inl l)))
        (λ l. ⊎_elim
        (λ i. ⊎_elim
        (λ r. inl (answer_from_parts a b i r))
        (⊎_elim (λ c. inr (inl (inr (i, c))))
        (λ c. inr (inr (inr (sym i, subst (λ n. Before (group n) b.row a.row) i c)))))
        (before-cases a.row b.row h.long k.long (group a.alternative) h.others
        (subst (λ n. (v : ℕ) → first_part (group n) v ≡ None → value b.row v ≡ none) (sym i) k.others)))
        (λ n. inr (inr (inl (omega (arith, l, n)))))
        (cases_eq a.alternative b.alternative))
        (cases_lt a.alternative b.alternative)

    pub order_is_total : OrderIsTotal m e q
    order_is_total = record { never = precedes-never; onward = precedes_from_two; either = precedes-cases }
