-- To which part of an alternative a variable belongs, and that none is in two blocks that the required
-- triples lack. Assumes nothing.
--     block_at g i      the block number i of the alternative g
use Rattle.std.proofs.Common.{◌≡◌, ℕ, zero, suc, ◌+◌, ◌<◌, ◌≤◌, Bool, true, false, not, ◌&&◌, ◌⊎◌, List, []}
use Rattle.std.proofs.Common.{◌∷◌, map, length, get_or, Some, Option, sym, ap, ◌∙◌, subst, inl, inr, ⊎_elim}
use Rattle.std.proofs.Common.{arith}
use Rattle.std.proofs.Math.ListN.{length-map, get_or-map}
use Rattle.std.proofs.lemmas.Bool.{and_parts, not-true, false_from_ne_true, cases_Bool, both_ways, cases_lt}
use Rattle.std.proofs.lemmas.Bool.{cond-true, cond-false, and_from, or_left, or_right, not_from_false}
use Rattle.std.proofs.lemmas.List.Folds.{list_any_at}
use Rattle.std.specs.List.{list_any}
use Rattle.query.specs.Lawful.{limited, lawful, in_two, mentions, shares}
use Rattle.query.specs.declared.pattern.TriplePattern.{TriplePattern}
use Rattle.query.specs.Limits.{variables}
use Rattle.query.specs.Parts.{Part, Group}
use Rattle.query.proofs.Lawful.{shares_decides}
use Rattle.algebra.specs.Order.{first_part_from, first_part, parts_of}
use Rattle.algebra.specs.Words.{no_part}

-- first_part_from

module _ (v p : ℕ) (ts : List TriplePattern) (parts : List (List TriplePattern)) where
  pub first_part_from-yes : mentions v ts ≡ true → first_part_from v p (ts ∷ parts) ≡ Some p
  first_part_from-yes t = cond-true (mentions v ts) (Some p) (first_part_from v (p + 1) parts) t

  pub first_part_from-no : mentions v ts ≡ false
      → first_part_from v p (ts ∷ parts) ≡ first_part_from v (p + 1) parts
  first_part_from-no f = cond-false (mentions v ts) (Some p) (first_part_from v (p + 1) parts) f

-- two parts of one variable are the same
pub same_part : (o : Option ℕ) (j k : ℕ) → o ≡ Some j → o ≡ Some k → j ≡ k
same_part o j k e f = cc

-- the part is one of them, and its triples hold the variable
pub held_from_part : (v p : ℕ) (parts : List (List TriplePattern)) (k : ℕ)
    → first_part_from v p parts ≡ Some k
    → (i : ℕ) × (k ≡ p + i) × (i < length parts) × (mentions v (get_or parts i []) ≡ true)
held_from_part v p [] k h = cc
held_from_part v p (ts ∷ parts) k h =
    ⊎_elim
    (λ t. let at = same_part (first_part_from v p (ts ∷ parts)) p k (first_part_from-yes v p ts parts t) h in
    (0, omega (arith, at), omega arith, t))
    (λ f. let (i, at, low, t) = held_from_part v (p + 1) parts k
    (sym (first_part_from-no v p ts parts f) ∙ h) in
    (suc i, omega (arith, at), omega (arith, low), t))
    (cases_Bool (mentions v ts))

-- what belongs to the first part is in its triples
pub held_from_first : (v p : ℕ) (ts : List TriplePattern) (parts : List (List TriplePattern))
    → first_part_from v p (ts ∷ parts) ≡ Some p → mentions v ts ≡ true
held_from_first v p ts parts h =
    let (i, at, low, t) = held_from_part v p (ts ∷ parts) p h in
    let first : i ≡ 0 = omega (arith, at) in
    subst (λ k. mentions v (get_or (ts ∷ parts) k []) ≡ true) first t

-- a variable in a part's triples belongs to that part or to one before it
first_from_held : (v p : ℕ) (parts : List (List TriplePattern)) (i : ℕ) → i < length parts
    → mentions v (get_or parts i []) ≡ true → (k : ℕ) × (first_part_from v p parts ≡ Some k) × (k ≤ p + i)
first_from_held v p [] i low t = absurd (omega arith)
first_from_held v p (ts ∷ parts) zero low t = (p, first_part_from-yes v p ts parts t, omega arith)
first_from_held v p (ts ∷ parts) (suc i) low t =
    ⊎_elim
    (λ w. (p, first_part_from-yes v p ts parts w, omega arith))
    (λ w. let (k, e, high) = first_from_held v (p + 1) parts i (omega arith) t in
    (k, first_part_from-no v p ts parts w ∙ e, omega arith))
    (cases_Bool (mentions v ts))

-- in_two

in_two_from_places : {A : Type 0} (p : A → Bool) (xs : List A) (i j : ℕ) (d : A) → i < j → j < length xs
    → p (get_or xs i d) ≡ true → p (get_or xs j d) ≡ true → in_two p xs ≡ true
in_two_from_places p [] i j d low high t w = absurd (omega arith)
in_two_from_places p (x ∷ xs) i zero d low high t w = absurd (omega arith)
in_two_from_places p (x ∷ xs) zero (suc j) d low high t w =
    or_left (p x && list_any p xs) (in_two p xs)
    (and_from (p x) (list_any p xs) t (list_any_at p xs j d (omega arith) w))
in_two_from_places p (x ∷ xs) (suc i) (suc j) d low high t w =
    or_right (p x && list_any p xs) (in_two p xs)
    (in_two_from_places p xs i j d (omega arith) (omega arith) t w)

-- first_part

-- the block number i of the alternative
abbrev pub block_at : Group → ℕ → Part
block_at g i = get_or g.blocks i no_part

-- what belongs to part 0 is in the required triples
pub held_from_required : (g : Group) (v : ℕ) → first_part g v ≡ Some 0 → mentions v g.required ≡ true
held_from_required g v = held_from_first v 0 g.required (map (λ b. b.triples) g.blocks)

pub first_part-required : (g : Group) (v : ℕ) → mentions v g.required ≡ true → first_part g v ≡ Some 0
first_part-required g v = first_part_from-yes v 0 g.required (map (λ b. b.triples) g.blocks)

-- what belongs to part i + 1 is in the triples of block i, and not in the required triples
pub held_from_block : (g : Group) (i v : ℕ) → first_part g v ≡ Some (i + 1)
    → (i < length g.blocks) × (mentions v (block_at g i).triples ≡ true) × (mentions v g.required ≡ false)
held_from_block g i v h =
    ⊎_elim
    (λ t. let never = same_part (first_part g v) (i + 1) 0 h (first_part-required g v t) in
    absurd (omega (arith, never)))
    (λ f. let rest = sym (first_part_from-no v 0 g.required (map (λ b. b.triples) g.blocks) f) ∙ h in
    let (k, at, low, t) = held_from_part v 1 (map (λ b. b.triples) g.blocks) (i + 1) rest in
    let here : k ≡ i = omega arith in (
      omega (arith, length-map g.blocks (λ (b : Part). b.triples)),
      subst (λ ts. mentions v ts ≡ true) (get_or-map (λ (b : Part). b.triples) g.blocks i no_part)
          (subst (λ j. mentions v (get_or (map (λ b. b.triples) g.blocks) j []) ≡ true) here t),
      f,
    ))
    (cases_Bool (mentions v g.required))

pub list_any-shares : (q : List Group) → lawful q ≡ true → list_any shares q ≡ false
list_any-shares q h = not-true (list_any shares q) (and_parts (limited q) (not (list_any shares q)) h).1

-- no variable that the required triples lack is in two blocks
pub apart_from_shares : (g : Group) → shares g ≡ false → (v : ℕ) → v < variables
    → mentions v g.required ≡ false → in_two (λ b. mentions v b.triples) g.blocks ≡ false
apart_from_shares g apart v small lacks =
    false_from_ne_true (in_two (λ b. mentions v b.triples) g.blocks)
    (λ t. both_ways (shares g) apart ((shares_decides g).1 (
      v,
      small,
      and_from (in_two (λ b. mentions v b.triples) g.blocks) (not (mentions v g.required)) t
          (not_from_false (mentions v g.required) lacks),
    )))

-- a variable in the triples of block i belongs to that block, or to the required triples: it is in two blocks
-- only if it is in those
pub owner_from_held : (g : Group) → shares g ≡ false → (i v : ℕ) → v < variables → i < length g.blocks
    → mentions v (block_at g i).triples ≡ true → (first_part g v ≡ Some 0) ⊎ (first_part g v ≡ Some (i + 1))
owner_from_held g apart i v small low t =
    let there = subst (λ ts. mentions v ts ≡ true)
    (sym (get_or-map (λ (b : Part). b.triples) g.blocks i no_part)) t in
    let (k, own, first) = first_from_held v 0 (parts_of g) (suc i)
    (omega (arith, length-map g.blocks (λ (b : Part). b.triples))) there in
    owner k own first
  where
    owner : (k : ℕ) → first_part g v ≡ Some k → k ≤ 0 + suc i
        → (first_part g v ≡ Some 0) ⊎ (first_part g v ≡ Some (i + 1))
    owner zero own first = inl own
    owner (suc j) own first =
        let (high, held, lacks) = held_from_block g j v (own ∙ ap Some (omega arith)) in
        ⊎_elim
        (λ before. absurd (both_ways (in_two (λ b. mentions v b.triples) g.blocks)
        (apart_from_shares g apart v small lacks)
        (in_two_from_places (λ b. mentions v b.triples) g.blocks j i no_part before low held t)))
        (λ same. inr (own ∙ ap Some (omega arith)))
        (cases_lt j i)
