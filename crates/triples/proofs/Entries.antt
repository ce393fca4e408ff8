-- Laws of directories. Assumes nothing.
use Rattle.std.proofs.Common.{◌≡◌, ℕ, zero, suc, ◌+◌, ◌-◌, ◌<◌, ◌≤◌, true, false, ◌&&◌, ltb, leb, List}
use Rattle.std.proofs.Common.{length, HoldsAt, Option, Some, None, MatchOption, Less, Equal, Greater}
use Rattle.std.proofs.Common.{ap, subst, ⊎_elim, arith}
use Rattle.std.specs.Ordering.{nat_cmp, ordering_index}
use Rattle.std.specs.List.Sorted.{IsNonDecreasingBy, IsPartitionPoint}
use Rattle.std.proofs.lemmas.List.Sorted.{IsNonDecreasingBy-from_default}
use Rattle.std.proofs.lemmas.Bool.{and_parts, leb-true, ltb-true, cases_eq}
use Rattle.std.proofs.lemmas.Bool.Decides.{nat_tests}
use Rattle.triples.specs.declared.entry.DirectoryEntry.{DirectoryEntry}
use Rattle.triples.specs.Selectors.{accepts}
use Rattle.triples.specs.Meaning.{term}
use Rattle.triples.specs.Directory.{no_entry, property_of, first_of, follows, entry_good}
use Rattle.triples.specs.Directory.{EntriesGood, FirstBroken}
use Rattle.triples.specs.Spans.{Spanned}

-- entries in order

module _ (top : ℕ) (dir : List DirectoryEntry) (pairs : ℕ) (good : EntriesGood top dir pairs) where
  entry_parts : (i : ℕ) → i < length dir
      → ((term top (property_of dir i) ≡ true) × (first_of dir i ≤ pairs)) × (follows dir i ≡ true)
  entry_parts i h =
      let parts = and_parts (term top (property_of dir i) && leb (first_of dir i) pairs) (follows dir i)
      (good i h) in
      let bounds = and_parts (term top (property_of dir i)) (leb (first_of dir i) pairs) parts.0 in
      ((bounds.0, leb-true (first_of dir i) pairs bounds.1), parts.1)

  next_parts : (i : ℕ) → suc i < length dir
      → (property_of dir i < property_of dir (suc i)) × (first_of dir i ≤ first_of dir (suc i))
  next_parts i h =
      let parts = and_parts (ltb (property_of dir i) (property_of dir (suc i)))
      (leb (first_of dir i) (first_of dir (suc i))) (entry_parts (suc i) h).1 in (
        ltb-true (property_of dir i) (property_of dir (suc i)) parts.0,
        leb-true (first_of dir i) (first_of dir (suc i)) parts.1,
      )

  pub first_inside : (i : ℕ) → i < length dir → first_of dir i ≤ pairs
  first_inside i h = (entry_parts i h).0.1

  pub first_next : (i : ℕ) → i + 1 < length dir → first_of dir i ≤ first_of dir (i + 1)
  first_next i h = subst (λ k. first_of dir i ≤ first_of dir k) (omega arith)
      (next_parts i (omega (arith, h))).1

  -- properties ascend
  property_next : (i n : ℕ) → i + suc n < length dir → property_of dir i < property_of dir (i + suc n)
  property_next i zero h =
      subst (λ k. property_of dir i < property_of dir k) (omega arith) (next_parts i (omega (arith, h))).0
  property_next i (suc n) h =
      let low = property_next i n (omega (arith, h)) in
      let high = (next_parts (i + suc n) (omega (arith, h))).0 in
      let next : suc (i + suc n) ≡ i + suc (suc n) = omega arith in
      subst (λ k. property_of dir i < property_of dir k) next (omega (arith, low, high))

  pub property_later : (i k : ℕ) → i < k → k < length dir → property_of dir i < property_of dir k
  property_later i k h l =
      subst (λ j. property_of dir i < property_of dir j) (omega (arith, h))
      (property_next i (k - i - 1) (omega (arith, h, l)))

  -- the comparisons with a property rise
  rising : (wanted : ℕ) → IsNonDecreasingBy (λ e. ordering_index (nat_cmp e.property wanted)) dir
  rising wanted = IsNonDecreasingBy-from_default (λ e. ordering_index (nat_cmp e.property wanted)) dir
      no_entry
      (λ i j h l. ⊎_elim
      (λ e. let same = ap (λ k. ordering_index (nat_cmp (property_of dir k) wanted)) e in
      omega (arith, same))
      (λ ne. let less = property_later i j (omega (arith, h, ne)) l in grind (arith, nat_tests))
      (cases_eq i j))

  -- spans

  module _ (wanted i : ℕ) (known : wanted ≡ 0 → ⊥) where
    pub spanned_found : i < length dir → HoldsAt (λ e. nat_cmp e.property wanted ≡ Equal) dir i
        → Spanned dir wanted (record { start = i; end = i + 1 })
    spanned_found h e = record {
      upward = omega arith;
      inside = omega (arith, h);
      before = λ k l. let less = property_later k i l h in let same = e no_entry in grind (arith, nat_tests);
      within = λ k low high. let same = e no_entry in
          let here : i ≡ k = omega (arith, low, high) in
          subst (λ j. accepts wanted (property_of dir j) ≡ true) here (grind (arith, nat_tests));
      behind = λ k low high. let less = property_later i k (omega (arith, low)) high in
          let same = e no_entry in grind (arith, nat_tests);
    }

    pub spanned_missing : i ≤ length dir
        → (IsNonDecreasingBy (λ e. ordering_index (nat_cmp e.property wanted)) dir
        → IsPartitionPoint (λ e. nat_cmp e.property wanted ≡ Less)
        (λ e. nat_cmp e.property wanted ≡ Greater) dir i)
        → Spanned dir wanted (record { start = i; end = i })
    spanned_missing h parted = record {
      upward = omega arith;
      inside = h;
      before = λ k l. let less = (parted (rising wanted)).0 k no_entry (omega arith) l in
          grind (arith, nat_tests);
      within = λ k low high. absurd (omega (arith, low, high));
      behind = λ k low high. let more = (parted (rising wanted)).1 k no_entry low high in
          grind (arith, nat_tests);
    }

-- the first broken entry
pub broken_found : (top : ℕ) (dir : List DirectoryEntry) (pairs : ℕ) (r : Option ℕ)
    → MatchOption r ((k : ℕ) → 0 ≤ k → k < length dir → entry_good top dir pairs k ≡ true)
    (λ i. (0 ≤ i) × (i < length dir) × (entry_good top dir pairs i ≡ false)
    × ((k : ℕ) → 0 ≤ k → k < i → entry_good top dir pairs k ≡ true))
    → MatchOption r (EntriesGood top dir pairs) (FirstBroken top dir pairs)
broken_found top dir pairs None f = λ i h. f i (omega arith) h
broken_found top dir pairs (Some i) f = record {
  inside = f.1;
  bad = f.2;
  earlier = λ k h. f.3 k (omega arith) h;
}
