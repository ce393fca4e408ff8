-- Laws of lists in which no triple stands twice. Assumes nothing.
use Rattle.std.proofs.Common.{◌≡◌, ℕ, ◌+◌, ◌<◌, ◌≤◌, Bool, true, false, cond, not, ◌&&◌, ◌||◌, leb, ltb}
use Rattle.std.proofs.Common.{List, [], ◌∷◌, ◌++◌, length, get_or, is_some, Some, Option, sym, refl, ap}
use Rattle.std.proofs.Common.{◌∙◌, subst, arith, length-append}
use Rattle.std.proofs.lemmas.Iterator.Adapters.{position_from-zero}
use Rattle.std.proofs.lemmas.List.Quantifiers.{position-Some}
use Rattle.std.proofs.lemmas.List.Sums.{sum_by-cons, sum_by-swap_remove, sum_by_push}
use Rattle.std.proofs.lemmas.Bool.Decides.{nat_tests}
use Rattle.std.specs.List.{list_any, position, position_from, swap_remove}
use Rattle.triples.specs.declared.triple.Triple.{Triple}
use Rattle.triples.specs.Meaning.{among}
use Rattle.triples.specs.Laws.{among-append}
use Rattle.triples.specs.Order.{same}
use Rattle.triples.proofs.Order.{same_is}
use Rattle.layers.specs.Sets.{most_withdrawn, occurrences, Once, Removed}

pub among_push : (xs : List Triple) (y t : Triple) → among (xs ++ y ∷ []) t ≡ (among xs t || same y t)
among_push xs y t = grind (arith, nat_tests, among-append xs (y ∷ []) t)

among-counted : (xs : List Triple) (t : Triple) → among xs t ≡ leb 1 (occurrences xs t)
among-counted [] t = refl
among-counted (x ∷ xs) t =
    grind (arith, nat_tests, among-counted xs t, sum_by-cons (λ y. cond (same y t) 1 0) x xs)

none_among : (xs : List Triple) (t : Triple) → among xs t ≡ false → occurrences xs t ≡ 0
none_among xs t h =
    grind (arith, nat_tests, among-counted xs t)

pub once_push : (xs : List Triple) (t : Triple) → Once xs → among xs t ≡ false → Once (xs ++ t ∷ [])
once_push xs t o h u =
    let more = sum_by_push (λ x. cond (same x u) 1 0) xs t in
    grind (arith, nat_tests, more, o u, none_among xs u, same_is t u)

-- the last triple moved over the one at i, which is t: one triple fewer, and t is gone
module _ (xs : List Triple) (i : ℕ) (t : Triple) (once : Once xs) (inside : i < length xs)
    (here : get_or xs i t ≡ t) where
  less : (u : Triple) → occurrences (swap_remove xs i t) u + cond (same t u) 1 0 ≡ occurrences xs u
  less u =
      ap (λ (x : Triple). occurrences (swap_remove xs i t) u + cond (same x u) 1 0) (sym here)
      ∙ sum_by-swap_remove (λ x. cond (same x u) 1 0) xs i t inside

  once_less : Once (swap_remove xs i t)
  once_less u = omega (arith, once u, less u)

  among_less : (u : Triple) → among (swap_remove xs i t) u ≡ (among xs u && not (same t u))
  among_less u =
      grind (
        arith,
        nat_tests,
        among-counted (swap_remove xs i t) u,
        among-counted xs u,
        less u,
        once u,
      )

pub any_among : (xs : List Triple) (t : Triple) → list_any (λ x. same x t) xs ≡ among xs t
any_among [] t = refl
any_among (x ∷ xs) t = ap (λ b. same x t || b) (any_among xs t)

position_any : {X : Type 0} (p : X → Bool) (i : ℕ) (xs : List X)
    → is_some (position_from p i xs) ≡ list_any p xs
position_any p i [] = refl
position_any p i (x ∷ xs) = grind (arith, nat_tests, position_any p (i + 1) xs)

-- a triple has a place exactly if it is an element
pub placed_among : (xs : List Triple) (t : Triple) {r : Option ℕ} → r ≡ position (λ x. same x t) xs
    → is_some r ≡ among xs t
placed_among xs t e =
    ap is_some (e ∙ position_from-zero (λ x. same x t) xs)
    ∙ position_any (λ x. same x t) 0 xs ∙ any_among xs t

pub once_added : (b : Bool) (xs ys : List Triple) (t : Triple) → Once xs → among xs t ≡ false
    → ys ≡ cond b (xs ++ t ∷ []) xs → Once ys
once_added true xs ys t o h e = subst Once (sym e) (once_push xs t o h)
once_added false xs ys t o h e = subst Once (sym e) o

pub few_added : (b : Bool) (xs ys : List Triple) (t : Triple) → length xs ≤ most_withdrawn
    → b ≡ ltb (length xs) most_withdrawn → ys ≡ cond b (xs ++ t ∷ []) xs → length ys ≤ most_withdrawn
few_added true xs ys t h room e = rw e (grind (arith, nat_tests, length-append xs (t ∷ []), room))
few_added false xs ys t h room e = rw e h

-- what is left where the triple at its place is removed, and the last one moved there
module _ (xs ys : List Triple) (i : ℕ) (t x : Triple) (once : Once xs)
    (placed : Some i ≡ position (λ u. same u t) xs) (value : x ≡ get_or xs i x)
    (items : ys ≡ swap_remove xs i x) where
  found : (d : Triple) → (i < length xs) × (get_or xs i d ≡ t)
  found d = let f = position-Some (λ u. same u t) xs i d (sym placed) in (f.0, same_is (get_or xs i d) t f.1)

  left : ys ≡ swap_remove xs i t
  left = items ∙ ap (swap_remove xs i) (value ∙ (found x).1)

  pub once_left : Once ys
  once_left = subst Once (sym left) (once_less xs i t once (found t).0 (found t).1)

  pub removed_left : length ys + 1 ≡ length xs → Removed xs t true ys
  removed_left len = (
    sym (placed_among xs t placed),
    λ u. ap (λ zs. among zs u) left ∙ among_less xs i t once (found t).0 (found t).1 u,
    len,
  )
