-- Answers about sets of triples that are put together from the answers about their parts. Assumes nothing.
-- Joins s Q best     where Q says what is answered for a set, best of two answers is the one for both sets
use Rattle.std.proofs.Common.{◌≡◌, ℕ, zero, suc, ◌+◌, ◌-◌, ◌<◌, ◌≤◌, Bool, true, false}
use Rattle.std.proofs.Common.{List, [], ◌∷◌, ◌++◌, map, get_or, length, Some, None}
use Rattle.std.proofs.Common.{Option, sym, refl, ap, ◌∙◌, subst, subst₂, arith}
use mathlib.Core.Path.{fun_ext}
use denote.Param.Members.{Mut}
use Rattle.std.specs.Fn.{Called}
use Rattle.std.specs.Iterator.{FoldsItems}
use Rattle.std.specs.List.{range_with_len}
use Rattle.std.proofs.iter.Yields.{nat_range_steps}
use Rattle.std.specs.declared.ops.Range.{Range}
use Rattle.std.proofs.lemmas.List.{append-nil, append_assoc, length-append}
use Rattle.std.proofs.lemmas.List.FromFn.{length-range_with_len}
use Rattle.std.proofs.lemmas.Fn.{fold_over}
use Rattle.std.proofs.lemmas.Iterator.{YieldsList-from_range}
use Rattle.std.proofs.lemmas.Bool.{false≢true, both_ways}
use Rattle.std.proofs.lemmas.Bool.Decides.{nat_tests}
use Rattle.triples.specs.declared.entry.DirectoryEntry.{DirectoryEntry}
use Rattle.triples.specs.declared.pair.Pair.{Pair}
use Rattle.triples.specs.declared.position.Position.{Position}
use Rattle.triples.specs.declared.position.Position.TheVariants.{Property}
use Rattle.triples.specs.declared.selector.Selector.{Selector}
use Rattle.triples.specs.declared.triple.Triple.{Triple}
use Rattle.triples.specs.Selectors.{matches, accepts, select}
use Rattle.triples.specs.Meaning.{among}
use Rattle.triples.specs.Tables.{triple_of}
use Rattle.triples.specs.Seeks.{Candidate, Sought, Offer, Leapt}
use Rattle.triples.specs.Unions.{union, earlier, lesser}
use Rattle.triples.specs.Directory.{property_of, section, section_triples, triples_upto, table_triples}
use Rattle.triples.specs.Laws.{among-append}
use Rattle.triples.proofs.Meaning.{among_place}
use Rattle.triples.proofs.Unions.{sought_union, leapt_union, lesser_none}

pub record Joins {R : Type 0} (s : Selector) (Q : (Triple → Bool) → Option R → Type 0)
    (best : Option R → Option R → Option R) : Type 0 where
  pub both : (A B : Triple → Bool) (a b : Option R) → Q A a → Q B b → Q (union A B) (best a b)
  pub only : (a : Option R) → best a None ≡ a
  pub silent : (A : Triple → Bool) → ((t : Triple) → A t ≡ true → matches s t ≡ false) → Q A None

pub joins_seek : (s : Selector) (start : Triple) → Joins s (λ has r. Sought has s start r) earlier
joins_seek s start = record {
  both = λ A B a b f g. sought_union A B s start a b f g;
  only = earlier_none;
  silent = λ A quiet t c. both_ways (matches s t) (quiet t c.held) c.fit;
}
  where
    earlier_none : (a : Option Triple) → earlier a None ≡ a
    earlier_none None = refl
    earlier_none (Some t) = refl

pub joins_leap : (p : Position) (s : Selector) (bound : ℕ) → Joins s (λ has r. Leapt has p s bound r) lesser
joins_leap p s bound = record {
  both = λ A B a b f g. leapt_union A B p s bound a b f g;
  only = lesser_none;
  silent = λ A quiet n o. both_ways (matches s o.triple) (quiet o.triple o.held) o.fit;
}

unlike_property : (s : Selector) (t : Triple) → accepts s.property t.property ≡ false
    → matches s t ≡ false
unlike_property s t h = grind (arith, nat_tests)

select_property : (s : Selector) (t : Triple) (n : ℕ) → t.property ≡ n → matches s t ≡ true
    → matches (select s Property n) t ≡ true
select_property s t n e h = grind (arith, nat_tests)

property_selected : (s : Selector) (t : Triple) (n : ℕ) → t.property ≡ n → accepts s.property n ≡ true
    → matches (select s Property n) t ≡ true → matches s t ≡ true
property_selected s t n e a h = grind (arith, nat_tests)

-- the next number of those that count up

abbrev behind_first : List ℕ → List ℕ
behind_first [] = []
behind_first (n ∷ ns) = ns

next_number : (ys zs : List ℕ) (i from n : ℕ) → ys ++ i ∷ zs ≡ range_with_len from n
    → (i ≡ from + length ys) × (length ys < n)
next_number [] zs i from zero e = let len = ap length e in absurd (omega (arith, len))
next_number [] zs i from (suc n) e =
    let first : i ≡ from = ap (λ ns. get_or ns 0 i) e in (omega (arith, first), omega arith)
next_number (y ∷ ys) zs i from zero e = let len = ap length e in absurd (omega (arith, len))
next_number (y ∷ ys) zs i from (suc n) e =
    let later = next_number ys zs i (from + 1) n (ap behind_first e) in
    let is = later.0 in
    let inside = later.1 in (omega (arith, is), omega (arith, inside))

module _ {R : Type 0} {s : Selector} {Q : (Triple → Bool) → Option R → Type 0}
    {best : Option R → Option R → Option R} (j : Joins s Q best) where
  -- lists

  pub join_append : (xs ys : List Triple) (a b : Option R) → Q (among xs) a → Q (among ys) b
      → Q (among (xs ++ ys)) (best a b)
  join_append xs ys a b f g =
      subst (λ has. Q has (best a b)) (fun_ext (λ t. sym (among-append xs ys t)))
      (j.both (among xs) (among ys) a b f g)

  pub join_rest : (xs ys : List Triple) (a : Option R) → Q (among xs) a
      → ((t : Triple) → among ys t ≡ true → matches s t ≡ false) → Q (among (xs ++ ys)) a
  join_rest xs ys a f quiet =
      subst (Q (among (xs ++ ys))) (j.only a) (join_append xs ys a None f (j.silent (among ys) quiet))

  -- entries of a directory

  module _ (dir : List DirectoryEntry) (pairs : List Pair) where
    section_quiet : (n : ℕ) → accepts s.property (property_of dir n) ≡ false → (t : Triple)
        → among (section_triples dir pairs n) t ≡ true → matches s t ≡ false
    section_quiet n unlike t h =
        let p = among_place (triple_of (property_of dir n)) (section dir pairs n) t h in
        subst (λ u. matches s u ≡ false) (p.is p.element)
        (unlike_property s (triple_of (property_of dir n) _) unlike)

    pub join_skip : (n : ℕ) (a : Option R) → accepts s.property (property_of dir n) ≡ false
        → Q (among (triples_upto dir pairs n)) a → Q (among (triples_upto dir pairs (suc n))) a
    join_skip n a unlike f = join_rest (triples_upto dir pairs n) (section_triples dir pairs n) a f
        (section_quiet n unlike)

    pub join_before : (n : ℕ) → ((i : ℕ) → i < n → accepts s.property (property_of dir i) ≡ false)
        → Q (among (triples_upto dir pairs n)) None
    join_before zero unlike = j.silent (among []) (λ t h. absurd (false≢true h))
    join_before (suc n) unlike =
        join_skip n None (unlike n (omega arith)) (join_before n (λ i h. unlike i (omega (arith, h))))

    join_behind : (n k : ℕ) (a : Option R)
        → ((i : ℕ) → n ≤ i → i < n + k → accepts s.property (property_of dir i) ≡ false)
        → Q (among (triples_upto dir pairs n)) a → Q (among (triples_upto dir pairs (n + k))) a
    join_behind n zero a unlike f =
        let end : n ≡ n + zero = omega arith in
        subst (λ m. Q (among (triples_upto dir pairs m)) a) end f
    join_behind n (suc k) a unlike f =
        let next : suc (n + k) ≡ n + suc k = omega arith in
        subst (λ m. Q (among (triples_upto dir pairs m)) a) next
        (join_skip (n + k) a (unlike (n + k) (omega arith) (omega arith))
        (join_behind n k a (λ i low high. unlike i low (omega (arith, high))) f))

    pub join_all : (n : ℕ) (a : Option R) → n ≤ length dir
        → ((i : ℕ) → n ≤ i → i < length dir → accepts s.property (property_of dir i) ≡ false)
        → Q (among (triples_upto dir pairs n)) a → Q (among (table_triples dir pairs)) a
    join_all n a h unlike f =
        let end : n + (length dir - n) ≡ length dir = omega (arith, h) in
        subst (λ m. Q (among (triples_upto dir pairs m)) a) end
        (join_behind n (length dir - n) a (λ i low high. unlike i low (omega (arith, high, h))) f)

    pub join_more : (n : ℕ) (a b : Option R) → Q (among (triples_upto dir pairs n)) a
        → Q (among (section_triples dir pairs n)) b → Q (among (triples_upto dir pairs (n + 1))) (best a b)
    join_more n a b f g =
        let next : suc n ≡ n + 1 = omega arith in
        subst (λ m. Q (among (triples_upto dir pairs m)) (best a b)) next
        (join_append (triples_upto dir pairs n) (section_triples dir pairs n) a b f g)

    -- the entries of a span, taken one after the other by a fold

    module _ {F : Type 0} (g : Mut F (Option R × (ℕ × Unit {0})) (Option R)) (f : F) (from : ℕ) where
      abbrev Begun : List ℕ → List ℕ → Option R → Type 0
      Begun all ys a = (zs : List ℕ) → ys ++ zs ≡ all
          → Q (among (triples_upto dir pairs (from + length ys))) a

      pub join_fold : (Found : ℕ → Option R → Type 0) (to : ℕ) → from ≤ to → to ≤ length dir
          → ((i : ℕ) → i < from → accepts s.property (property_of dir i) ≡ false)
          → ((i : ℕ) → to ≤ i → i < length dir → accepts s.property (property_of dir i) ≡ false)
          → ((i : ℕ) (a b : Option R) (f' : F) → Called g f (a, (i, tt)) b f' → f' ≡ f)
          → ((i : ℕ) (a b : Option R) (f' : F) → Called g f (a, (i, tt)) b f'
          → (found : Option R) × Found i found × (b ≡ best a found))
          → ((i : ℕ) → from ≤ i → i < to → (found : Option R) → Found i found
          → Q (among (section_triples dir pairs i)) found)
          → (span : Range ℕ) → span ≡ record { start = from; end = to } → (r : Option R)
          → FoldsItems nat_range_steps g span f None r → Q (among (table_triples dir pairs)) r
      join_fold Found to up inside before behind keeps step known span is r folds =
          join_all to r inside behind
          (subst (λ k. Q (among (triples_upto dir pairs k)) r) end
          (fold_over nat_range_steps (λ i. i) g (Begun all) f more span all None r
          (YieldsList-from_range from to (to - from) is refl).runs begun folds [] (append-nil all)))
        where
          all : List ℕ
          all = range_with_len from (to - from)

          len : length all ≡ to - from
          len = length-range_with_len from (to - from)

          end : from + length all ≡ to
          end = omega (arith, up, len)

          begun : Begun all [] None
          begun zs e =
              let none : from ≡ from + 0 = omega arith in
              subst (λ k. Q (among (triples_upto dir pairs k)) None) none (join_before from before)

          more : (ys : List ℕ) (a : Option R) (i : ℕ) (b : Option R) (f' : F) → Begun all ys a
              → Called g f (a, (i, tt)) b f' → Begun all (ys ++ i ∷ []) b × (f' ≡ f)
          more ys a i b f' j k = (
            λ zs e.
                let split : ys ++ (i ∷ zs) ≡ all = sym (append_assoc ys (i ∷ []) zs) ∙ e in
                let next = next_number ys zs i from (to - from) split in
                let is = next.0 in
                let before_end = next.1 in
                let found = step i a b f' k in
                let here = known i (omega (arith, is)) (omega (arith, is, before_end, up)) found.0 found.1 in
                let long = length-append ys (i ∷ []) in
                let one_more : from + length ys + 1 ≡ from + length (ys ++ i ∷ []) = omega (arith, long) in
                subst₂ (λ k x. Q (among (triples_upto dir pairs k)) x) one_more (sym found.2)
                (join_more (from + length ys) a found.0 (j (i ∷ zs) split)
                (subst (λ k. Q (among (section_triples dir pairs k)) found.0) is here)),
            keeps i a b f' k,
          )

-- a selector with the property of all triples there

module _ (A : Triple → Bool) (p : Position) (s : Selector) (bound n : ℕ)
    (alike : (t : Triple) → A t ≡ true → t.property ≡ n) where
  known : (k : ℕ) → Offer A p s bound k → Offer A p (select s Property n) bound k
  known k o = record {
    triple = o.triple;
    held = o.held;
    fit = select_property s o.triple n (alike o.triple o.held) o.fit;
    stands = o.stands;
    reached = o.reached;
  }

  pub leapt_known : (r : Option ℕ) → accepts s.property n ≡ true → Leapt A p (select s Property n) bound r
      → Leapt A p s bound r
  leapt_known None fits f = λ k o. f k (known k o)
  leapt_known (Some x) fits f = record {
    offer = record {
      triple = f.offer.triple;
      held = f.offer.held;
      fit = property_selected s f.offer.triple n (alike f.offer.triple f.offer.held) fits
          f.offer.fit;
      stands = f.offer.stands;
      reached = f.offer.reached;
    };
    first = λ k o. f.first k (known k o);
  }

module _ (A : Triple → Bool) (s : Selector) (start : Triple) (n : ℕ)
    (alike : (t : Triple) → A t ≡ true → t.property ≡ n) where
  known_candidate : (t : Triple) → Candidate A s start t → Candidate A (select s Property n) start t
  known_candidate t c = record {
    held = c.held;
    fit = select_property s t n (alike t c.held) c.fit;
    reached = c.reached;
  }

  pub sought_known : (r : Option Triple) → accepts s.property n ≡ true
      → Sought A (select s Property n) start r → Sought A s start r
  sought_known None fits f = λ t c. f t (known_candidate t c)
  sought_known (Some t) fits f = record {
    candidate = record {
      held = f.candidate.held;
      fit = property_selected s t n (alike t f.candidate.held) fits f.candidate.fit;
      reached = f.candidate.reached;
    };
    first = λ u c. f.first u (known_candidate u c);
  }

pub pair_property : (n : ℕ) (xs : List Pair) (t : Triple) → among (map (triple_of n) xs) t ≡ true
    → n ≡ t.property
pair_property n xs t h =
    let p = among_place (triple_of n) xs t h in
    ap (λ u. u.property) (p.is p.element)
