-- What is gathered goes on with each number noted, and stays gathered in any order. Assumes nothing.
use Rattle.std.proofs.Common.{◌≡◌, ℕ, ◌+◌, ◌<◌, ◌≤◌, Bool, true, false, cond, not, eqb, ◌⊎◌, List, [], ◌∷◌}
use Rattle.std.proofs.Common.{◌++◌, length, set, replicate, count_by, sym, refl, ap, ◌∙◌, subst, subst₂, inl}
use Rattle.std.proofs.Common.{inr, ⊎_elim, arith}
use Rattle.std.proofs.ByRecursion.{All-push, All-weaker, has_append_left, has_push, all_shuffled}
use Rattle.std.proofs.ByRecursion.{has_shuffled}
use Rattle.std.proofs.lemmas.List.{length_push, length-replicate, get_or_past, get_or-replicate}
use Rattle.std.proofs.lemmas.List.{get_or-set_same, get_or-set_other, set-get_or}
use Rattle.std.proofs.lemmas.List.Sorted.{length_permutation, sum_by-IsPermutation}
use Rattle.std.proofs.lemmas.List.Sums.{sum_by_push, sum_by-set}
use Rattle.std.proofs.lemmas.Bool.{cases_Bool, cases_eq, both_ways, cond-true, cond-false}
use Rattle.std.proofs.lemmas.Bool.Decides.{nat_tests}
use Rattle.std.specs.List.{ContainsAt as Has, AllByRecursion}
use Rattle.std.specs.List.Sorted.{IsPermutation}
use Rattle.std.specs.Prelude.{slice_set}
use Rattle.trace.specs.Marks.{marked, unmarked, Gathered}
use Rattle.trace.proofs.Lists.{count_none}

-- marks

-- after is marks with y marked, and more is found with y behind it unless y was marked before
pub record Noted (y : ℕ) (marks : List Bool) (found : List ℕ) (after : List Bool) (more : List ℕ)
    : Type 0 where
  pub mark : after ≡ slice_set marks y true
  pub list : more ≡ cond (marked marks y) found (found ++ y ∷ [])

pub marked_none : (n y : ℕ) → marked (replicate n false) y ≡ false
marked_none n y =
    grind (
      arith,
      nat_tests,
      length-replicate n false,
      get_or-replicate n y false false,
      get_or_past (replicate n false) y false,
    )

marked-set : (marks : List Bool) (y z : ℕ) → y < length marks → marked marks z ≡ true
    → marked (set marks y true) z ≡ true
marked-set marks y z l h =
    grind (arith, nat_tests, get_or-set_same marks y true false l, get_or-set_other marks y z true false)

unmarked-set : (marks : List Bool) (y : ℕ) → y < length marks → marked marks y ≡ false
    → unmarked (set marks y true) + 1 ≡ unmarked marks
unmarked-set marks y l h =
    grind (arith, nat_tests, sum_by-set (λ b. cond (not b) 1 0) marks y true false l)

-- a number noted, by what its mark was before

module _ (y : ℕ) (marks : List Bool) (found : List ℕ) {before now : Bool} (is : now ≡ true)
    (was : before ≡ marked marks y) where
  noted_mark : set marks y now ≡ set marks y true
  noted_mark = ap (set marks y) is

  pub noted_met : before ≡ true → Noted y marks found (set marks y now) found
  noted_met h = record {
    mark = noted_mark;
    list = grind (arith, nat_tests);
  }

  pub noted_new : before ≡ false → {more : List ℕ} → more ≡ found ++ y ∷ []
      → Noted y marks found (set marks y now) more
  noted_new h e = record {
    mark = noted_mark;
    list = grind (arith, nat_tests);
  }

-- what is gathered

module _ {P : ℕ → Type 0} {old new : List Bool} {xs : List ℕ} (g : Gathered P old new xs) where
  -- Q holds where P does, and each number with Q is marked
  gathered_weaker : {Q : ℕ → Type 0} → ((y : ℕ) → P y → Q y) → ((y : ℕ) → Q y → marked new y ≡ true)
      → Gathered Q old new xs
  gathered_weaker to all = record {
    each = All-weaker _ _
        (λ y h. record { wanted = to y h.wanted; before = h.before; after = h.after }) xs g.each;
    once = g.once;
    all = all;
    kept = g.kept;
    fresh = g.fresh;
    fewer = g.fewer;
  }

  pub gathered_like : {Q : ℕ → Type 0} → ((y : ℕ) → P y → Q y) → ((y : ℕ) → Q y → P y)
      → Gathered Q old new xs
  gathered_like to from = gathered_weaker to (λ y h. g.all y (from y h))

  pub gathered_shuffled : {ys : List ℕ} → IsPermutation xs ys → Gathered P old new ys
  gathered_shuffled {ys} s = record {
    each = all_shuffled _ xs ys s g.each;
    once = λ y. let before = g.once y in
        let now = sum_by-IsPermutation (λ x. cond (eqb y x) 1 0) xs ys s in
        omega (arith, before, now);
    all = g.all;
    kept = g.kept;
    fresh = λ y h. ⊎_elim inl (λ k. inr (has_shuffled xs ys y s k)) (g.fresh y h);
    fewer = let before = g.fewer in let long = length_permutation xs ys s in omega arith;
  }

  gathered_old : (y : ℕ) → marked new y ≡ true → Gathered (λ z. P z ⊎ (z ≡ y)) old new xs
  gathered_old y here =
      gathered_weaker (λ z. inl)
      (λ z. ⊎_elim (g.all z) (λ e. subst (λ k. marked new k ≡ true) (sym e) here))

  module _ (y : ℕ) (l : y < length new) (here : marked new y ≡ false) where
    apart : AllByRecursion (λ x. y ≡ x → ⊥) xs
    apart =
        All-weaker _ _
        (λ x h e. both_ways (marked new x) (subst (λ k. marked new k ≡ false) e here) h.after)
        xs g.each

    unmarked_before : marked old y ≡ false
    unmarked_before =
        grind (arith, nat_tests, g.kept y)

    once_push : (z : ℕ) → count_by (eqb z) (xs ++ y ∷ []) ≤ 1
    once_push z =
        let more = sum_by_push (λ x. cond (eqb z x) 1 0) xs y in
        grind (arith, nat_tests, more, g.once z, count_none y xs apart)

    gathered_push : Gathered (λ z. P z ⊎ (z ≡ y)) old (set new y true) (xs ++ y ∷ [])
    gathered_push = record {
      each = All-push _ xs y
          (All-weaker _ _
          (λ z h. record {
            wanted = inl h.wanted;
            before = h.before;
            after = marked-set new y z l h.after;
          })
          xs g.each)
          (record {
            wanted = inr refl;
            before = unmarked_before;
            after = get_or-set_same new y true false l;
          });
      once = once_push;
      all = λ z. ⊎_elim (λ h. marked-set new y z l (g.all z h))
          (λ e. subst (λ k. marked (set new y true) k ≡ true) (sym e) (get_or-set_same new y true false l));
      kept = λ z h. marked-set new y z l (g.kept z h);
      fresh = λ z h. ⊎_elim (λ e. inr (subst (Has (xs ++ y ∷ [])) (sym e) (has_push xs y)))
          (λ ne. ⊎_elim inl (λ k. inr (has_append_left xs (y ∷ []) z k))
          (g.fresh z (sym (get_or-set_other new y z true false ne) ∙ h)))
          (cases_eq z y);
      fewer =
          let one = unmarked-set new y l here in
          let long = length_push xs y in
          let before = g.fewer in omega arith;
    }

  pub gathered_more : {y : ℕ} {after : List Bool} {more : List ℕ} → y < length new → Noted y new xs after more
      → Gathered (λ z. P z ⊎ (z ≡ y)) old after more
  gathered_more {y} l n =
      ⊎_elim
      (λ here. subst₂ (Gathered (λ z. P z ⊎ (z ≡ y)) old)
      (sym (n.mark ∙ ap (set new y) (sym here) ∙ set-get_or new y false))
      (sym (n.list ∙ cond-true (marked new y) xs (xs ++ y ∷ []) here)) (gathered_old y here))
      (λ here. subst₂ (Gathered (λ z. P z ⊎ (z ≡ y)) old) (sym n.mark)
      (sym (n.list ∙ cond-false (marked new y) xs (xs ++ y ∷ []) here)) (gathered_push y l here))
      (cases_Bool (marked new y))
