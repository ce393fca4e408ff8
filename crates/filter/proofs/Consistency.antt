-- The truths of a lawful filter's nodes are consistent, and the only ones. Assumes nothing.
use Rattle.std.proofs.Common.{◌≡◌, ℕ, zero, suc, ◌+◌, ◌<◌, true, List, [], ◌∷◌, ◌++◌, length, get_or, sym, ap}
use Rattle.std.proofs.Common.{◌∙◌, refl, ⊎_elim, arith}
use Rattle.std.proofs.lemmas.Bool.{and_parts, cases_lt}
use Rattle.std.proofs.lemmas.List.{ext_get_or, get_or_append_left, get_or_at, length_push}
use Rattle.catalogue.specs.Entries.{Entry}
use Rattle.query.specs.declared.node.Node.{Node}
use Rattle.query.specs.Lawful.{lawful_node, lawful_nodes}
use Rattle.query.specs.Limits.{within, most_in_part}
use Rattle.filter.specs.declared.truth.Truth.{Truth}
use Rattle.filter.specs.declared.truth.Truth.TheVariants.{Error}
use Rattle.filter.specs.Rows.{Row}
use Rattle.filter.specs.Comparisons.{Agree}
use Rattle.filter.specs.Filters.{truth_at, node_truth, truths_onto, truths_of}
use Rattle.filter.specs.Theorems.{TruthsAreTheOnly}
use Rattle.filter.proofs.Filters.{node_truth_like, length-truths_onto}

module _ (entries : ℕ → Entry) (r : Row) where
  -- what stands in front stays
  onto_front : (ts : List Truth) (ns : List Node) (k : ℕ) → k < length ts
      → truth_at (truths_onto entries r ts ns) k ≡ truth_at ts k
  onto_front ts [] k here = refl
  onto_front ts (n ∷ ns) k here =
      let t = node_truth entries r ts n in
      onto_front (ts ++ t ∷ []) ns k (omega (arith, here, length_push ts t))
      ∙ get_or_append_left ts (t ∷ []) Error k here

  -- behind it each truth is what its node makes of them all
  onto_each : (i : ℕ) (ts : List Truth) (ns : List Node) → length ts ≡ i → lawful_nodes i ns ≡ true
      → (k : ℕ) (d : Node) → k < length ns
      → truth_at (truths_onto entries r ts ns) (i + k)
      ≡ node_truth entries r (truths_onto entries r ts ns) (get_or ns k d)
  onto_each i ts [] long law k d here = absurd (omega (arith, here))
  onto_each i ts (n ∷ ns) long law zero d here =
      let w = and_parts (lawful_node i n) (lawful_nodes (i + 1) ns) law in
      let t = node_truth entries r ts n in
      let all = truths_onto entries r (ts ++ t ∷ []) ns in
      let at : i + 0 ≡ i = omega arith in
      ap (truth_at all) at
      ∙ onto_front (ts ++ t ∷ []) ns i (omega (arith, long, length_push ts t))
      ∙ get_or_at ts t [] Error i long
      ∙ node_truth_like entries r i n ts all w.0
      (λ j below. sym (onto_front ts (n ∷ ns) j (omega (arith, below, long))))
  onto_each i ts (n ∷ ns) long law (suc k) d here =
      let w = and_parts (lawful_node i n) (lawful_nodes (i + 1) ns) law in
      let t = node_truth entries r ts n in
      let at : i + suc k ≡ i + 1 + k = omega arith in
      ap (truth_at (truths_onto entries r (ts ++ t ∷ []) ns)) at
      ∙ onto_each (i + 1) (ts ++ t ∷ []) ns (omega (arith, long, length_push ts t)) w.1 k d
      (omega (arith, here))

  -- truths that begin with those in front, and are each what its node makes of them, are these
  onto_only : (i : ℕ) (ts : List Truth) (ns : List Node) (us : List Truth) → length ts ≡ i
      → lawful_nodes i ns ≡ true → length us ≡ i + length ns → Agree i us ts
      → ((k : ℕ) (d : Node) → k < length ns → truth_at us (i + k) ≡ node_truth entries r us (get_or ns k d))
      → us ≡ truths_onto entries r ts ns
  onto_only i ts [] us long law all front each =
      ext_get_or Error us ts (omega (arith, all, long)) (λ j here. front j (omega (arith, here, all)))
  onto_only i ts (n ∷ ns) us long law all front each =
      let w = and_parts (lawful_node i n) (lawful_nodes (i + 1) ns) law in
      let t = node_truth entries r ts n in
      let at : i + 0 ≡ i = omega arith in
      let here : truth_at us i ≡ t =
      sym (ap (truth_at us) at) ∙ each 0 n (omega arith) ∙ node_truth_like entries r i n us ts w.0 front in
      onto_only (i + 1) (ts ++ t ∷ []) ns us (omega (arith, long, length_push ts t)) w.1 (omega (arith, all))
      (λ j below. ⊎_elim
      (λ less. front j less ∙ sym (get_or_append_left ts (t ∷ []) Error j (omega (arith, less, long))))
      (λ more. let last : j ≡ i = omega (arith, below, more) in
      ap (truth_at us) last ∙ here ∙ sym (get_or_at ts t [] Error j (omega (arith, long, last))))
      (cases_lt j i))
      (λ k d less. let step : i + 1 + k ≡ i + suc k = omega arith in
      ap (truth_at us) step ∙ each (suc k) d (omega (arith, less)))

pub truths_are_the_only : TruthsAreTheOnly
truths_are_the_only entries r ns law =
    let w = and_parts (within 0 most_in_part (length ns)) (lawful_nodes 0 ns) law in
    let at : (k : ℕ) → 0 + k ≡ k = λ k. omega arith in (
      record {
        long = length-truths_onto entries r [] ns ∙ at (length ns);
        each = λ k d here. ap (truth_at (truths_of entries r ns)) (sym (at k))
            ∙ onto_each entries r 0 [] ns refl w.1 k d here;
      },
      λ ts h. onto_only entries r 0 [] ns ts refl w.1 (h.long ∙ sym (at (length ns)))
          (λ j below. absurd (omega (arith, below)))
          (λ k d here. ap (truth_at ts) (at k) ∙ h.each k d here),
    )
