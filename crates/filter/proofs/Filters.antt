-- Laws of filters: which nodes a lawful one names, and the truths of its nodes. Assumes nothing.
use Rattle.std.proofs.Common.{◌≡◌, ℕ, zero, suc, ◌+◌, ◌<◌, ◌≤◌, true, ltb, List, [], ◌∷◌, ◌++◌, length}
use Rattle.std.proofs.Common.{Some, None, Option, sym, refl, ap, ◌∙◌, arith}
use Rattle.std.specs.List.{IsLastAndRest, last_or}
use Rattle.std.proofs.lemmas.Bool.{and_parts, and_from, ltb-true, lt-ltb}
use Rattle.std.proofs.lemmas.List.{length_push}
use Rattle.catalogue.specs.Entries.{Entry}
use Rattle.query.specs.declared.node.Node.{Node}
use Rattle.query.specs.declared.node.Node.TheVariants.{Equal, Less, Bound, Not, And, Or}
use Rattle.query.specs.Lawful.{lawful_node, lawful_nodes, lawful_filter}
use Rattle.query.specs.Limits.{within, most_in_part}
use Rattle.query.proofs.Limits.{within_from, within_high}
use Rattle.filter.specs.declared.truth.Truth.{Truth}
use Rattle.filter.specs.Rows.{Row}
use Rattle.filter.specs.Truths.{negated, conjunction, disjunction}
use Rattle.filter.specs.Filters.{truth_at, node_truth, truths_onto, truths_of, last_truth, filter_truth}
use Rattle.filter.specs.Comparisons.{Agree}

-- lawful_node

-- what names only nodes below i names only nodes below j
pub lawful_node_more : (i j : ℕ) (n : Node) → i ≤ j → lawful_node i n ≡ true → lawful_node j n ≡ true
lawful_node_more i j (Equal a b) le h = h
lawful_node_more i j (Less a b) le h = h
lawful_node_more i j (Bound v) le h = h
lawful_node_more i j (Not a) le h = lt-ltb a j (omega (arith, ltb-true a i h))
lawful_node_more i j (And a b) le h =
    let w = and_parts (ltb a i) (ltb b i) h in
    and_from _ _ (lt-ltb a j (omega (arith, ltb-true a i w.0))) (lt-ltb b j (omega (arith, ltb-true b i w.1)))
lawful_node_more i j (Or a b) le h =
    let w = and_parts (ltb a i) (ltb b i) h in
    and_from _ _ (lt-ltb a j (omega (arith, ltb-true a i w.0))) (lt-ltb b j (omega (arith, ltb-true b i w.1)))

-- lawful_nodes

-- nodes that are lawful with one behind them are lawful, and so is that one at its number
pub lawful_nodes_push : (i : ℕ) (ns : List Node) (n : Node) → lawful_nodes i (ns ++ n ∷ []) ≡ true
    → (lawful_nodes i ns ≡ true) × (lawful_node (i + length ns) n ≡ true)
lawful_nodes_push i [] n h = (refl, lawful_node_more i (i + 0) n (omega arith) (and_parts _ true h).0)
lawful_nodes_push i (m ∷ ns) n h =
    let w = and_parts (lawful_node i m) (lawful_nodes (i + 1) (ns ++ n ∷ [])) h in
    let s = lawful_nodes_push (i + 1) ns n w.1 in
    (and_from _ _ w.0 s.0, lawful_node_more (i + 1 + length ns) (i + (length (m ∷ ns))) n (omega arith) s.1)

-- lawful_filter

pub lawful_few : (ns : List Node) → lawful_filter ns ≡ true → length ns ≤ most_in_part
lawful_few ns h =
    let w = and_parts (within 0 most_in_part (length ns)) (lawful_nodes 0 ns) h in
    within_high 0 most_in_part (length ns) w.0

-- what a lawful filter says of its last node and of those below it
pub record Pushed (ns : List Node) (n : Node) : Type 0 where
  pub below : lawful_filter ns ≡ true
  pub node : lawful_node (length ns) n ≡ true
  pub few : length ns < most_in_part

pub lawful_filter_push : (all ns : List Node) (n : Node) → IsLastAndRest all n ns
    → lawful_filter all ≡ true → Pushed ns n
lawful_filter_push all ns n parted h =
    let w = and_parts (within 0 most_in_part (length all)) (lawful_nodes 0 all) h in
    let s = lawful_nodes_push 0 ns n (ap (lawful_nodes 0) (sym parted.0) ∙ w.1) in
    let few : length ns < most_in_part =
    omega (arith, lawful_few all h, parted.1) in
    record {
      below = and_from _ _ (within_from 0 most_in_part (length ns) (omega arith) (omega arith)) s.0;
      node = lawful_node_more (0 + length ns) (length ns) n (omega arith) s.1;
      few = few;
    }

-- node_truth

-- a lawful node is the same by any truths that agree below its number
pub node_truth_like : (entries : ℕ → Entry) (r : Row) (i : ℕ) (n : Node) (ts us : List Truth)
    → lawful_node i n ≡ true → Agree i ts us → node_truth entries r ts n ≡ node_truth entries r us n
node_truth_like entries r i (Equal a b) ts us h same = refl
node_truth_like entries r i (Less a b) ts us h same = refl
node_truth_like entries r i (Bound v) ts us h same = refl
node_truth_like entries r i (Not a) ts us h same = ap negated (same a (ltb-true a i h))
node_truth_like entries r i (And a b) ts us h same =
    let w = and_parts (ltb a i) (ltb b i) h in
    ap (λ t. conjunction t (truth_at ts b)) (same a (ltb-true a i w.0))
    ∙ ap (conjunction (truth_at us a)) (same b (ltb-true b i w.1))
node_truth_like entries r i (Or a b) ts us h same =
    let w = and_parts (ltb a i) (ltb b i) h in
    ap (λ t. disjunction t (truth_at ts b)) (same a (ltb-true a i w.0))
    ∙ ap (disjunction (truth_at us a)) (same b (ltb-true b i w.1))

-- truths_onto

module _ (entries : ℕ → Entry) (r : Row) where
  pub length-truths_onto : (ts : List Truth) (ns : List Node)
      → length (truths_onto entries r ts ns) ≡ length ts + length ns
  length-truths_onto ts [] = omega arith
  length-truths_onto ts (n ∷ ns) =
      let t = node_truth entries r ts n in
      omega (arith, length-truths_onto (ts ++ t ∷ []) ns, length_push ts t)

  -- one node more adds its truth behind
  pub truths_onto_push : (ts : List Truth) (ns : List Node) (n : Node)
      → truths_onto entries r ts (ns ++ n ∷ [])
      ≡ truths_onto entries r ts ns ++ node_truth entries r (truths_onto entries r ts ns) n ∷ []
  truths_onto_push ts [] n = refl
  truths_onto_push ts (m ∷ ns) n = truths_onto_push (ts ++ node_truth entries r ts m ∷ []) ns n

-- filter_truth

last_or_at : (o : Option Truth) (ts : List Truth) (i : ℕ) → length ts ≡ i + 1
    → last_or o ts ≡ Some (truth_at ts i)
last_or_at o [] i e = absurd (omega (arith, e))
last_or_at o (t ∷ []) zero e = refl
last_or_at o (t ∷ []) (suc i) e = absurd (omega (arith, e))
last_or_at o (t ∷ (u ∷ us)) zero e = absurd (omega (arith, e))
last_or_at o (t ∷ (u ∷ us)) (suc i) e = last_or_at (Some t) (u ∷ us) i (omega (arith, e))

-- the truth of a filter with nodes is that of its last one
pub filter_truth_at : (entries : ℕ → Entry) (r : Row) (ns : List Node) (i : ℕ) → length ns ≡ i + 1
    → filter_truth entries r ns ≡ truth_at (truths_of entries r ns) i
filter_truth_at entries r ns i e =
    let long = length-truths_onto entries r [] ns in
    ap last_truth (last_or_at None (truths_of entries r ns) i (omega (arith, long, e)))
