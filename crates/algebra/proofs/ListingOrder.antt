-- The listing ascends, so it has nothing twice. Assumes nothing.
use Rattle.std.proofs.Common.{◌≡◌, ℕ, suc, ◌+◌, ◌<◌, ◌≤◌, true, false, ◌&&◌, ◌⊎◌, List, [], ◌∷◌, map, length}
use Rattle.std.proofs.Common.{slice_index_or, refl, sym, ap, ◌∙◌, subst, ⊎_elim, inl, inr, append-nil}
use Rattle.std.proofs.Common.{add-zero, zero-add, arith}
use Rattle.std.proofs.lemmas.Bool.{cases_Bool, cases_lt, both_ways, or_parts, and_cases}
use Rattle.std.specs.List.{filter, flat_map, list_any, AllByRecursion}
use Rattle.catalogue.specs.Entries.{Entry}
use Rattle.query.specs.declared.pattern.TriplePattern.{TriplePattern}
use Rattle.query.specs.Lawful.{mentions, in_two, shares, lawful}
use Rattle.query.specs.Limits.{variables}
use Rattle.query.specs.Parts.{Part, Group}
use Rattle.triples.specs.Meaning.{Meaning}
use Rattle.filter.specs.Rows.{Row, value}
use Rattle.filter.specs.Filters.{passes}
use Rattle.algebra.specs.Patterns.{blank, stored, completions, open_variables}
use Rattle.algebra.specs.Answers.{Answer, numbered, same_row, same_answer, times, times_answered}
use Rattle.algebra.specs.Order.{parts_of, no_group, Before, Precedes, Ascending}
use Rattle.algebra.proofs.Lists.{all-every, all-append, all-map, all-filter, all-weaker}
use Rattle.algebra.proofs.Ascents.{ascending-append, ascending-filter, ascending-map, ascending-weaker}
use Rattle.algebra.proofs.Ascents.{ascending-flat_map, count_by-ascending}
use Rattle.algebra.proofs.Rows.{length-blank, equal_from_same_row, equal_from_same_answer, equal_past}
use Rattle.algebra.proofs.Rows.{answer_of}
use Rattle.algebra.proofs.Lexical.{Less, lowest_from_kept}
use Rattle.algebra.proofs.Listing.{fitting, or_itself, extended, rows_of, answers_of_from, answers_of}
use Rattle.algebra.proofs.Fitting.{ascending-stored, all-fitting, ascending-fitting}
use Rattle.algebra.proofs.Owners.{apart_from_shares, list_any-shares}
use Rattle.algebra.proofs.TotalOrder.{Ahead, ahead_from_lowest, ahead_from_later, before_from_ahead}
use Rattle.algebra.proofs.TotalOrder.{before-never, precedes-never}
use Rattle.algebra.proofs.Blocks.{in_blocks, Kept, Fitted, kept-self, some_from_kept, lowest_from_fitted}
use Rattle.algebra.proofs.Blocks.{all_fitted, all-extended}

-- what blocks make of rows

-- the variables of the triples are settled: each has a value, or no block holds it
abbrev Settled : List TriplePattern → List Part → Row → Type 0
Settled ts bs r = (v : ℕ) → v < variables → mentions v ts ≡ true → (0 < value r v) ⊎ (in_blocks v bs ≡ false)

-- rows that the blocks made of one row agree at the variables that were settled
equal_from_settled : (ts : List TriplePattern) (bs : List Part) (r : Row) → length r ≡ variables
    → Settled ts bs r → (s t : Row) → Kept (λ v. in_blocks v bs) r s → Kept (λ v. in_blocks v bs) r t
    → (v : ℕ) → mentions v ts ≡ true → value s v ≡ value t v
equal_from_settled ts bs r h settled s t k l v m =
    ⊎_elim
    (λ small. k.same v (settled v small m) ∙ sym (l.same v (settled v small m)))
    (equal_past s t variables (k.long ∙ h) (l.long ∙ h) v)
    (cases_lt v variables)

kept_from_settled : (ts : List TriplePattern) (bs : List Part) (r : Row) → length r ≡ variables
    → Settled ts bs r → (s : Row) → Kept (λ v. in_blocks v bs) r s → (v : ℕ) → mentions v ts ≡ true
    → value s v ≡ value r v
kept_from_settled ts bs r h settled s k =
    equal_from_settled ts bs r h settled s r k (kept-self (λ v. in_blocks v bs) r)

-- no variable that the triples lack is in two of the blocks
abbrev Apart : List TriplePattern → List Part → Type 0
Apart ts bs = (v : ℕ) → v < variables → mentions v ts ≡ false → in_two (λ b. mentions v b.triples) bs ≡ false

-- each variable of the triples has a value
abbrev Given : List TriplePattern → Row → Type 0
Given ts r = (v : ℕ) → v < variables → mentions v ts ≡ true → 0 < value r v

-- none is in the first block and a later one, and none is in two of the later ones
apart_parts : (ts : List TriplePattern) (b : Part) (bs : List Part) → Apart ts (b ∷ bs)
    → (v : ℕ) → v < variables → mentions v ts ≡ false
    → ((mentions v b.triples && in_blocks v bs) ≡ false) × (in_two (λ c. mentions v c.triples) bs ≡ false)
apart_parts ts b bs apart v small f =
    or_parts (mentions v b.triples && in_blocks v bs) (in_two (λ c. mentions v c.triples) bs)
    (apart v small f)

-- a block's variables are settled before it: the triples hold them, or no later block does
settled_from_apart : (ts : List TriplePattern) (b : Part) (bs : List Part) (r : Row) → Given ts r
    → Apart ts (b ∷ bs) → Settled b.triples bs r
settled_from_apart ts b bs r given apart v small t =
    ⊎_elim
    (λ y. inl (given v small y))
    (λ f. ⊎_elim (λ n. absurd (both_ways (mentions v b.triples) n t)) inr
    (and_cases (mentions v b.triples) (in_blocks v bs) (apart_parts ts b bs apart v small f).0))
    (cases_Bool (mentions v ts))

-- the blocks as parts
abbrev block_parts : List Part → List (List TriplePattern)
block_parts bs = map (λ b. b.triples) bs

module _ (m : Meaning) (e : ℕ → Entry) (k : ℕ) (ts : List TriplePattern) (bs : List Part) where
  -- what the blocks make of one row, seen with a part more before them, whose variables are settled
  ascending-settled : (r : Row) → length r ≡ variables → Settled ts bs r
      → Ascending (Ahead (k + 1) (block_parts bs)) (extended m e bs r)
      → Ascending (Ahead k (ts ∷ block_parts bs)) (extended m e bs r)
  ascending-settled r h settled =
      ascending-weaker (Ahead (k + 1) (block_parts bs)) (Kept (λ v. in_blocks v bs) r)
      (Ahead k (ts ∷ block_parts bs))
      (λ s t p q. ahead_from_later k ts (block_parts bs) s t (equal_from_settled ts bs r h settled s t p q))
      (extended m e bs r) (all-extended m e bs r h)

  -- what they make of the rows that fitted
  ascending-fitted : (r : Row) → length r ≡ variables
      → ((s : Row) → Fitted ts r s → Ascending (Ahead (k + 1) (block_parts bs)) (extended m e bs s))
      → (rows : List Row) → AllByRecursion (Fitted ts r) rows → Ascending (Less (open_variables ts r)) rows
      → Ascending (Ahead k (ts ∷ block_parts bs)) (flat_map (extended m e bs) rows)
  ascending-fitted r h each =
      let settled : (s : Row) → Fitted ts r s → Settled ts bs s =
      (λ s f v small t. inl (f.given v small t)) in
      ascending-flat_map (Fitted ts r) (Less (open_variables ts r)) (Ahead k (ts ∷ block_parts bs))
      (Kept (λ v. in_blocks v bs)) (extended m e bs)
      (λ s f. all-extended m e bs s (f.kept.long ∙ h))
      (λ s t f g l u w p q. ahead_from_lowest k ts (block_parts bs) u w
      (lowest_from_kept (λ v. mentions v ts) s t u w
      (kept_from_settled ts bs s (f.kept.long ∙ h) (settled s f) u p)
      (kept_from_settled ts bs t (g.kept.long ∙ h) (settled t g) w q) (lowest_from_fitted ts r h s t f g l)))
      (λ s f. ascending-settled s (f.kept.long ∙ h) (settled s f) (each s f))

  -- what they make of a row, or of the rows that fitted where there are some
  ascending-or_itself : (r : Row) → length r ≡ variables → Settled ts bs r
      → ((s : Row) → Kept (λ v. mentions v ts) r s
      → Ascending (Ahead (k + 1) (block_parts bs)) (extended m e bs s))
      → (rows : List Row) → AllByRecursion (Fitted ts r) rows → Ascending (Less (open_variables ts r)) rows
      → Ascending (Ahead k (ts ∷ block_parts bs)) (flat_map (extended m e bs) (or_itself r rows))
  ascending-or_itself r h settled each [] fits up =
      subst (Ascending (Ahead k (ts ∷ block_parts bs))) (sym (append-nil (extended m e bs r)))
      (ascending-settled r h settled (each r (kept-self (λ v. mentions v ts) r)))
  ascending-or_itself r h settled each (s ∷ rows) fits up =
      ascending-fitted r h (λ t f. each t f.kept) (s ∷ rows) fits up

module _ (m : Meaning) (e : ℕ → Entry) (ts : List TriplePattern) where
  -- what the blocks make of a row ascends, if the row has values for the triples, which hold every variable
  -- that two of the blocks hold
  ascending-extended : (bs : List Part) (k : ℕ) (r : Row) → length r ≡ variables → Given ts r → Apart ts bs
      → Ascending (Ahead k (block_parts bs)) (extended m e bs r)
  ascending-extended [] k r h given apart = (tt, tt)
  ascending-extended (b ∷ bs) k r h given apart =
      ascending-or_itself m e k b.triples bs r h (settled_from_apart ts b bs r given apart)
      (λ s f. ascending-extended bs (k + 1) s (f.long ∙ h)
      (λ v small t. some_from_kept (λ w. mentions w b.triples) r s f v (given v small t))
      (λ v small f. (apart_parts ts b bs apart v small f).1))
      (fitting m (passes e b.filter) b.triples r)
      (all-fitting (Fitted b.triples r) m (passes e b.filter) b.triples r (all_fitted b.triples r m.top h))
      (ascending-fitting m (passes e b.filter) b.triples r h)

-- the rows of an alternative

-- the required triples are a part from the row without values, and the blocks go on from there
ascending-rows_of : (m : Meaning) (e : ℕ → Entry) (g : Group) → shares g ≡ false
    → Ascending (Before g) (rows_of m e g)
ascending-rows_of m e g h =
    let long = length-blank in
    let rows = filter (stored m g.required) (completions m.top g.required blank) in
    let each : (s : Row) → Fitted g.required blank s → Ascending (Ahead 1 (block_parts g.blocks))
    (extended m e g.blocks s) =
    (λ s f. ascending-extended m e g.required g.blocks 1 s (f.kept.long ∙ long) f.given
    (apart_from_shares g h)) in
    let all = flat_map (extended m e g.blocks) rows in
    ascending-filter (Before g) (passes e g.filter) all
    (ascending-weaker (Ahead 0 (parts_of g)) (λ _. Unit {0}) (Before g)
    (λ r s _ _. before_from_ahead g r s) all (all-every (λ _. Unit {0}) (λ _. tt) all)
    (ascending-fitted m e 0 g.required g.blocks blank long each rows
    (all-filter (Fitted g.required blank) (stored m g.required) (completions m.top g.required blank)
    (all_fitted g.required blank m.top long))
    (ascending-stored m g.required blank long)))

-- an alternative has no row twice
pub rows_once : (m : Meaning) (e : ℕ → Entry) (g : Group) → shares g ≡ false → (r : Row)
    → times r (rows_of m e g) ≤ 1
rows_once m e g h r =
    count_by-ascending (Before g) same_row equal_from_same_row (before-never g) r (rows_of m e g)
    (ascending-rows_of m e g h)

-- the answers of a query

module _ (m : Meaning) (e : ℕ → Entry) where
  -- the answers of the alternatives from a on have numbers from a on
  all-answers_of_from : (a : ℕ) (gs : List Group)
      → AllByRecursion (λ x. a ≤ x.alternative) (answers_of_from m e a gs)
  all-answers_of_from a [] = tt
  all-answers_of_from a (g ∷ gs) =
      all-append (λ x. a ≤ x.alternative) (numbered a (rows_of m e g)) (answers_of_from m e (a + 1) gs)
      (all-map (λ x. a ≤ x.alternative) (answer_of a) (rows_of m e g)
      (all-every (λ _. a ≤ a) (λ _. omega arith) (rows_of m e g)))
      (all-weaker (λ x. a + 1 ≤ x.alternative) (λ x. a ≤ x.alternative) (λ x h. omega (arith, h))
      (answers_of_from m e (a + 1) gs) (all-answers_of_from (a + 1) gs))

  module _ (q : List Group) where
    ascending-numbered : (a : ℕ) (rows : List Row) → Ascending (Before (slice_index_or q a no_group)) rows
        → Ascending (Precedes q) (numbered a rows)
    ascending-numbered a rows h =
        ascending-map (Precedes q) (answer_of a) rows
        (ascending-weaker (Before (slice_index_or q a no_group)) (λ _. Unit {0})
        (λ r s. Precedes q (answer_of a r) (answer_of a s)) (λ r s _ _ b. inr (refl, b)) rows
        (all-every (λ _. Unit {0}) (λ _. tt) rows) h)

    -- an alternative's rows ascend, and each later answer has a higher number
    ascending-answers_of_from : (a : ℕ) (gs : List Group)
        → ((i : ℕ) → slice_index_or q (a + i) no_group ≡ slice_index_or gs i no_group)
        → list_any shares gs ≡ false → Ascending (Precedes q) (answers_of_from m e a gs)
    ascending-answers_of_from a [] is h = tt
    ascending-answers_of_from a (g ∷ gs) is h =
        let parts = or_parts (shares g) (list_any shares gs) h in
        let here : slice_index_or q a no_group ≡ g =
        ap (λ i. slice_index_or q i no_group) (sym (add-zero a)) ∙ is 0 in
        let later = answers_of_from m e (a + 1) gs in
        ascending-append (Precedes q) (numbered a (rows_of m e g)) later
        (ascending-numbered a (rows_of m e g)
        (subst (λ k. Ascending (Before k) (rows_of m e g)) (sym here) (ascending-rows_of m e g parts.0)))
        (ascending-answers_of_from (a + 1) gs
        (λ i. ap (λ j. slice_index_or q j no_group) (omega arith) ∙ is (suc i)) parts.1)
        (all-map (λ x. AllByRecursion (Precedes q x) later) (answer_of a) (rows_of m e g)
        (all-every (λ r. AllByRecursion (Precedes q (answer_of a r)) later)
        (λ r. all-weaker (λ x. a + 1 ≤ x.alternative) (Precedes q (answer_of a r))
        (λ x l. inl (omega (arith, l))) later (all-answers_of_from (a + 1) gs))
        (rows_of m e g)))

pub listing_ascends : (m : Meaning) (e : ℕ → Entry) (q : List Group) → lawful q ≡ true
    → Ascending (Precedes q) (answers_of m e q)
listing_ascends m e q h =
    ascending-answers_of_from m e q 0 q (λ i. ap (λ j. slice_index_or q j no_group) (zero-add i))
    (list_any-shares q h)

-- no answer is listed twice
pub listing_once : (m : Meaning) (e : ℕ → Entry) (q : List Group) → lawful q ≡ true → (a : Answer)
    → times_answered a (answers_of m e q) ≤ 1
listing_once m e q h a =
    count_by-ascending (Precedes q) same_answer equal_from_same_answer (precedes-never q) a (answers_of m e q)
    (listing_ascends m e q h)
