-- Laws of truths that agree up to a number. Assumes nothing.
use Rattle.std.proofs.Common.{◌≡◌, ℕ, ◌+◌, ◌<◌, List, [], ◌∷◌, ◌++◌, length, map, set, get_or, sym}
use Rattle.std.proofs.Common.{ap, ◌∙◌, subst, ⊎_elim, arith}
use Rattle.std.proofs.lemmas.List.{get_or-map, get_or-set_same, get_or-set_other, get_or_append_left}
use Rattle.std.proofs.lemmas.List.{get_or_at, get_or_default, length-map, map-append}
use Rattle.std.proofs.lemmas.Bool.{cases_eq}
use Rattle.std.specs.List.{IsLastAndRest}
use Rattle.catalogue.specs.Entries.{Entry}
use Rattle.query.specs.declared.node.Node.{Node}
use Rattle.query.specs.declared.node.Node.TheVariants.{Equal}
use Rattle.query.specs.declared.place.Place.TheVariants.{Variable}
use Rattle.query.specs.Limits.{most_in_part}
use Rattle.filter.specs.declared.truth.Truth.{Truth}
use Rattle.filter.specs.declared.truth.Truth.TheVariants.{False, Error}
use Rattle.filter.specs.Rows.{Row}
use Rattle.filter.specs.Filters.{truth_at, node_truth, truths_of}
use Rattle.filter.specs.Comparisons.{comparison, Agree}
use Rattle.filter.proofs.Filters.{Pushed, node_truth_like, length-truths_onto, truths_onto_push}

-- Agree

-- truths that agree below n agree below n + 1 once that of n is put right
agree_more : (n : ℕ) (ts us : List Truth) (t : Truth) → n < length ts → Agree n ts us
    → t ≡ truth_at us n → Agree (n + 1) (set ts n t) us
agree_more n ts us t long h e i below =
    ⊎_elim
    (λ same. subst (λ k. truth_at (set ts n t) k ≡ truth_at us k) (sym same)
    (get_or-set_same ts n t Error long ∙ e))
    (λ other. get_or-set_other ts n i t Error other ∙ h i (omega arith))
    (cases_eq i n)

-- the same with a truth more behind both
agree_push : (n : ℕ) (ts us : List Truth) (t u : Truth) → n < length ts → length us ≡ n → Agree n ts us
    → t ≡ u → Agree (n + 1) (set ts n t) (us ++ u ∷ [])
agree_push n ts us t u long here h e =
    agree_more n ts (us ++ u ∷ []) t long
    (λ i below. h i below ∙ sym (get_or_append_left us (u ∷ []) Error i (omega arith)))
    (e ∙ sym (get_or_at us u [] Error n here))

-- truths that agree with those of some and one more agree with those of the some, and with that one
agree_front : (n : ℕ) (ts us : List Truth) (u : Truth) → length us ≡ n → Agree (n + 1) ts (us ++ u ∷ [])
    → Agree n ts us × (truth_at ts n ≡ u)
agree_front n ts us u here h = (
  λ i below. h i (omega arith) ∙ get_or_append_left us (u ∷ []) Error i (omega arith),
  h n (omega arith) ∙ get_or_at us u [] Error n here,
)

-- what is read past the end of a filter
abbrev pub no_node : Node
no_node = Equal (Variable 0) (Variable 0)

-- the comparisons of the nodes below n are read off; with that of node number n they are those below n + 1
pub read_more : (entries : ℕ → Entry) (r : Row) (ns : List Node) (n : ℕ) (ts : List Truth) (t : Truth)
    → n < length ns → n < length ts → Agree n ts (map (comparison entries r) ns)
    → t ≡ comparison entries r (get_or ns n no_node)
    → Agree (n + 1) (set ts n t) (map (comparison entries r) ns)
read_more entries r ns n ts t here long h e =
    agree_more n ts (map (comparison entries r) ns) t long h
    (e ∙ sym (get_or-map (comparison entries r) ns n no_node Error here))

module _ (entries : ℕ → Entry) (r : Row) (ns : List Node) (n : Node) (below : List Node)
    (parted : IsLastAndRest ns n below) (law : Pushed below n) where
  -- the truths of the nodes below n stand in ts; with that of n they are those of all
  pub truths_more : (cs ts : List Truth) (t : Truth) → length cs ≡ most_in_part → length ts ≡ most_in_part
      → (Agree (length below) cs (map (comparison entries r) below)
      → Agree (length below) ts (truths_of entries r below))
      → (get_or cs (length below) False ≡ comparison entries r n → t ≡ node_truth entries r ts n)
      → Agree (length ns) cs (map (comparison entries r) ns)
      → Agree (length ns) (set ts (length below) t) (truths_of entries r ns)
  truths_more cs ts t long_cs long_ts before last h =
      let f = comparison entries r in
      let number = length below in
      let us = truths_of entries r below in
      let compared : map f ns ≡ map f below ++ f n ∷ [] = ap (map f) parted.0 ∙ map-append f below (n ∷ []) in
      let all : truths_of entries r ns ≡ us ++ node_truth entries r us n ∷ [] =
      ap (truths_of entries r) parted.0 ∙ truths_onto_push entries r [] below n in
      let (front, here) = agree_front number cs (map f below) (f n) (length-map below f)
      (subst (Agree (number + 1) cs) compared (λ i l. h i (omega (arith, l, parted.1)))) in
      let agree = before front in
      let read = get_or_default cs number False Error (omega (arith, long_cs, law.few)) in
      let t_is = last (read ∙ here) ∙ node_truth_like entries r number n ts us law.node agree in
      let pushed = agree_push number ts us t (node_truth entries r us n) (omega (arith, long_ts, law.few))
      (omega (arith, length-truths_onto entries r [] below)) agree t_is in
      λ i l. subst (Agree (number + 1) (set ts number t)) (sym all) pushed i (omega (arith, l, parted.1))
