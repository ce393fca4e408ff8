-- The lists of the grammar, its blocks and alternatives, each with its writing. Assumes nothing.
use Rattle.std.proofs.Common.{◌≡◌, ℕ, ◌+◌, ◌-◌, ◌≤◌, Bool, true, List, [], ◌∷◌, ◌++◌, length, refl, arith}
use Rattle.std.proofs.lemmas.Bool.{le-leb, and_parts, and_from}
use Rattle.varint.specs.Encode.{largest}
use Rattle.query.specs.declared.node.Node.{Node}
use Rattle.query.specs.declared.pattern.TriplePattern.{TriplePattern}
use Rattle.query.specs.Parts.{Part, Group}
use Rattle.query.specs.Limits.{within}
use Rattle.query.specs.Format.{triple_bytes, node_bytes, part_bytes, group_bytes, counted, bytes_of}
use Rattle.std.specs.List.{list_all}
use Rattle.query.specs.Lawful.{total, lawful_triple, lawful_node, lawful_nodes, lawful_filter}
use Rattle.query.specs.Lawful.{lawful_triples, lawful_part, lawful_group, limited, triples_in, nodes_in}
use Rattle.query.specs.Limits.{most_in_part, most_in_all, most_blocks, most_alternatives}
use Rattle.query.specs.Grammar.{triple, triples, node, filter, room, Used, block, blocks}
use Rattle.query.specs.Readers.{both}
use Rattle.query.specs.Grammar.{with_part, with_triples, with_group, unused, nodes_after, alternative}
use Rattle.query.specs.Grammar.{alternatives}
use Rattle.query.proofs.Limits.{within_from, within_low, within_high, group_limits, query_limits}
use Rattle.query.proofs.Readers.{Codec, codec_like}
use Rattle.query.proofs.Sequences.{Each, both_codec, series_codec}
use Rattle.query.proofs.Codecs.{triple_codec, node_codec}

-- triples

each_every : (i : ℕ) (ts : List TriplePattern)
    → Each (λ (_ : ℕ) t. lawful_triple t ≡ true) (λ i _. i + 1) i ts → list_all lawful_triple ts ≡ true
each_every i [] h = refl
each_every i (t ∷ ts) h = and_from _ _ h.0 (each_every (i + 1) ts h.1)

every_each : (i : ℕ) (ts : List TriplePattern) → list_all lawful_triple ts ≡ true
    → Each (λ (_ : ℕ) t. lawful_triple t ≡ true) (λ i _. i + 1) i ts
every_each i [] h = tt
every_each i (t ∷ ts) h = let w = and_parts (lawful_triple t) (list_all lawful_triple ts) h in
    (w.0, every_each (i + 1) ts w.1)

-- so many lawful triples, and no more in all than there may be
abbrev pub Triples : ℕ → ℕ → List TriplePattern → Type 0
Triples low used ts = (lawful_triples low ts ≡ true) × (length ts ≤ most_in_all - used)

room_small : (used : ℕ) → room used ≤ largest
room_small used = omega arith

pub triples_codec : (low used : ℕ) → Codec (triples low used) (counted triple_bytes) (Triples low used)
triples_codec low used =
    codec_like
    (λ ts. (within low (room used) (length ts) ≡ true)
    × ((length ts ≡ length ts) × Each (λ (_ : ℕ) t. lawful_triple t ≡ true) (λ i _. i + 1) 0 ts))
    (Triples low used)
    (λ ts h. let w = and_parts (within low most_in_part (length ts)) (list_all lawful_triple ts) h.0 in (
      within_from low (room used) (length ts) (within_low low most_in_part (length ts) w.0)
          (omega (arith, within_high low most_in_part (length ts) w.0, h.1)),
      (refl, every_each 0 ts w.1),
    ))
    (λ ts h. (
      and_from _ _
          (within_from low most_in_part (length ts) (within_low low (room used) (length ts) h.0)
          (omega (arith, within_high low (room used) (length ts) h.0)))
          (each_every 0 ts h.1.1),
      omega (arith, within_high low (room used) (length ts) h.0),
    ))
    (series_codec (λ (_ : ℕ). triple) (λ i _. i + 1) triple_bytes (λ _ t. lawful_triple t ≡ true)
    (λ _ _. Unit {0})
    (λ _ _ _ _ _. tt) (λ _ _ _. triple_codec) low (room used) (room_small used) 0 (λ _ _. tt))

-- filter

each_nodes : (i : ℕ) (ns : List Node) → Each (λ i n. lawful_node i n ≡ true) (λ i _. i + 1) i ns
    → lawful_nodes i ns ≡ true
each_nodes i [] h = refl
each_nodes i (n ∷ ns) h = and_from _ _ h.0 (each_nodes (i + 1) ns h.1)

nodes_each : (i : ℕ) (ns : List Node) → lawful_nodes i ns ≡ true
    → Each (λ i n. lawful_node i n ≡ true) (λ i _. i + 1) i ns
nodes_each i [] h = tt
nodes_each i (n ∷ ns) h = let w = and_parts (lawful_node i n) (lawful_nodes (i + 1) ns) h in
    (w.0, nodes_each (i + 1) ns w.1)

-- a lawful filter, and no more nodes in all than there may be
abbrev pub Nodes : ℕ → List Node → Type 0
Nodes used ns = (lawful_filter ns ≡ true) × (length ns ≤ most_in_all - used)

pub filter_codec : (used : ℕ) → Codec (filter used) (counted node_bytes) (Nodes used)
filter_codec used =
    codec_like
    (λ ns. (within 0 (room used) (length ns) ≡ true)
    × ((length ns ≡ length ns) × Each (λ i n. lawful_node i n ≡ true) (λ i _. i + 1) 0 ns))
    (Nodes used)
    (λ ns h. let w = and_parts (within 0 most_in_part (length ns)) (lawful_nodes 0 ns) h.0 in (
      within_from 0 (room used) (length ns) (omega arith)
          (omega (arith, within_high 0 most_in_part (length ns) w.0, h.1)),
      (refl, nodes_each 0 ns w.1),
    ))
    (λ ns h. let short = within_high 0 (room used) (length ns) h.0 in (
      and_from _ _ (within_from 0 most_in_part (length ns) (omega arith) (omega (arith, short)))
          (each_nodes 0 ns h.1.1),
      omega (arith, short),
    ))
    (series_codec node (λ i _. i + 1) node_bytes (λ i n. lawful_node i n ≡ true) (λ n i. i + n ≤ largest)
    (λ n i _ good _. omega arith) (λ n i good. node_codec i (omega arith)) 0 (room used) (room_small used) 0
    (λ n short. omega (arith, room_small used)))

-- totals

-- no more is used than there may be in all
abbrev Fits : Used → Type 0
Fits u = (u.triples ≤ most_in_all) × (u.nodes ≤ most_in_all)

-- so many triples and so many nodes more are no more than there may be in all
abbrev Room : Used → ℕ → ℕ → Type 0
Room u t n = (u.triples + t ≤ most_in_all) × (u.nodes + n ≤ most_in_all)

module _ {A : Type 0} (ok : A → Bool) (triples_of nodes_of : A → ℕ) where
  -- what is used with one element more
  abbrev more : Used → A → Used
  more u a = record { triples = u.triples + triples_of a; nodes = u.nodes + nodes_of a }

  -- each element lawful and with room for it is all lawful and room for all
  all_of_each : (u : Used) (xs : List A) → Fits u
      → Each (λ u a. (ok a ≡ true) × Room u (triples_of a) (nodes_of a)) more u xs
      → (list_all ok xs ≡ true) × Room u (total triples_of xs) (total nodes_of xs)
  all_of_each u [] f h = (refl, (omega (arith, f.0), omega (arith, f.1)))
  all_of_each u (x ∷ xs) f h =
      let r = all_of_each (more u x) xs h.0.1 h.1 in
      (and_from _ _ h.0.0 r.0, (omega (arith, r.1.0), omega (arith, r.1.1)))

  each_of_all : (u : Used) (xs : List A) → list_all ok xs ≡ true
      → Room u (total triples_of xs) (total nodes_of xs)
      → Each (λ u a. (ok a ≡ true) × Room u (triples_of a) (nodes_of a)) more u xs
  each_of_all u [] h r = tt
  each_of_all u (x ∷ xs) h r =
      let w = and_parts (ok x) (list_all ok xs) h in (
        (w.0, (omega (arith, r.0), omega (arith, r.1))),
        each_of_all (more u x) xs w.1 (omega (arith, r.0), omega (arith, r.1)),
      )

-- blocks

-- a block with room for it
abbrev BlockOk : Used → Part → Type 0
BlockOk u b = (lawful_part b ≡ true) × Room u (length b.triples) (length b.filter)

block_codec : (u : Used) → Fits u → Codec (block u) part_bytes (BlockOk u)
block_codec u f =
    codec_like (λ b. Triples 1 u.triples b.triples × Nodes u.nodes b.filter) (BlockOk u)
    (λ b h. let w = and_parts (lawful_triples 1 b.triples) (lawful_filter b.filter) h.0 in
    ((w.0, omega (arith, h.1.0)), (w.1, omega (arith, h.1.1))))
    (λ b h. (and_from _ _ h.0.0 h.1.0, (omega (arith, h.0.1, f.0), omega (arith, h.1.1, f.1))))
    (both_codec {C = Part} (triples 1 u.triples) (λ _. filter u.nodes)
    (λ ts ns. record { triples = ts; filter = ns })
    (counted triple_bytes) (Triples 1 u.triples) (triples_codec 1 u.triples)
    (counted node_bytes) (λ _. Nodes u.nodes) (λ _ _. filter_codec u.nodes)
    (λ b. b.triples) (λ b. b.filter) (λ b. refl) (λ a b _. (refl, refl)))

-- the blocks of an alternative with room for them
abbrev BlocksOk : Used → List Part → Type 0
BlocksOk u bs =
    (within 0 most_blocks (length bs) ≡ true)
    × ((list_all lawful_part bs ≡ true)
    × Room u (total (λ b. length b.triples) bs) (total (λ b. length b.filter) bs))

blocks_codec : (u : Used) → Fits u → Codec (blocks u) (counted part_bytes) (BlocksOk u)
blocks_codec u f =
    codec_like
    (λ bs. (within 0 most_blocks (length bs) ≡ true)
    × ((length bs ≡ length bs) × Each BlockOk with_part u bs))
    (BlocksOk u)
    (λ bs h. (
      h.0,
      (
        refl,
        each_of_all lawful_part (λ b. length b.triples) (λ b. length b.filter) u bs
            h.1.0 h.1.1,
      ),
    ))
    (λ bs h. (
      h.0,
      all_of_each lawful_part (λ b. length b.triples) (λ b. length b.filter) u bs f
          h.1.1,
    ))
    (series_codec block with_part part_bytes BlockOk (λ _ u. Fits u) (λ n u b _ ok. ok.1)
    (λ _ u good. block_codec u good)
    0 most_blocks (omega arith) u (λ _ _. f))

-- alternatives

-- an alternative with room for it
abbrev GroupOk : Used → Group → Type 0
GroupOk u g = (lawful_group g ≡ true) × Room u (triples_in g) (nodes_in g)

-- what follows the required triples
tail_codec : (u : Used) (n : ℕ) → Fits (with_triples u n)
    → Codec (both {C = List Part × List Node} (blocks (with_triples u n)) (λ bs. filter (nodes_after u bs))
    (λ bs ns. (bs, ns)))
    (λ x. counted part_bytes x.0 ++ counted node_bytes x.1)
    (λ x. BlocksOk (with_triples u n) x.0 × Nodes (nodes_after u x.0) x.1)
tail_codec u n f =
    both_codec (blocks (with_triples u n)) (λ bs. filter (nodes_after u bs)) (λ bs ns. (bs, ns))
    (counted part_bytes) (BlocksOk (with_triples u n)) (blocks_codec (with_triples u n) f)
    (counted node_bytes) (λ bs. Nodes (nodes_after u bs)) (λ bs _. filter_codec (nodes_after u bs))
    (λ x. x.0) (λ x. x.1) (λ x. refl) (λ a b _. (refl, refl))

-- the parts of an alternative, each with room for it
abbrev GroupParts : Used → Group → Type 0
GroupParts u g =
    Triples 0 u.triples g.required
    × (BlocksOk (with_triples u (length g.required)) g.blocks
    × Nodes (nodes_after u g.blocks) g.filter)

group_parts : (u : Used) (g : Group) → GroupOk u g → GroupParts u g
group_parts u g h =
    let l = group_limits g h.0 in (
      (l.required, omega (arith, h.1.0)),
      ((l.few, (l.blocks, (omega (arith, h.1.0), omega (arith, h.1.1)))), (l.filter, omega (arith, h.1.1))),
    )

group_from_parts : (u : Used) → Fits u → (g : Group) → GroupParts u g → GroupOk u g
group_from_parts u f g h = (
  and_from _ _ h.0.0 (and_from _ _ h.1.0.0 (and_from _ _ h.1.0.1.0 h.1.1.0)),
  (omega (arith, h.1.0.1.1.0), omega (arith, h.1.0.1.1.1, h.1.1.1)),
)

alternative_codec : (u : Used) → Fits u → Codec (alternative u) group_bytes (GroupOk u)
alternative_codec u f =
    codec_like (GroupParts u) (GroupOk u) (group_parts u) (group_from_parts u f)
    (both_codec {B = List Part × List Node} {C = Group} (triples 0 u.triples)
    (λ ts. both (blocks (with_triples u (length ts))) (λ bs. filter (nodes_after u bs)) (λ bs ns. (bs, ns)))
    (λ ts rest. record { required = ts; blocks = rest.0; filter = rest.1 })
    (counted triple_bytes) (Triples 0 u.triples) (triples_codec 0 u.triples)
    (λ x. counted part_bytes x.0 ++ counted node_bytes x.1)
    (λ ts x. BlocksOk (with_triples u (length ts)) x.0 × Nodes (nodes_after u x.0) x.1)
    (λ ts ok. tail_codec u (length ts) (omega (arith, ok.1, f.0), f.1))
    (λ g. g.required) (λ g. (g.blocks, g.filter)) (λ g. refl) (λ a b _. (refl, refl)))

-- each alternative in turn, with room for it
abbrev GroupsOk : List Group → Type 0
GroupsOk q = (within 1 most_alternatives (length q) ≡ true)
    × ((length q ≡ length q) × Each GroupOk with_group unused q)

groups_limited : (q : List Group) → GroupsOk q → limited q ≡ true
groups_limited q h =
    let a = all_of_each lawful_group triples_in nodes_in unused q (omega arith, omega arith) h.1.1 in
    and_from _ _ h.0 (and_from _ _ a.0
    (and_from _ _ (le-leb (total triples_in q) most_in_all (omega (arith, a.1.0)))
    (le-leb (total nodes_in q) most_in_all (omega (arith, a.1.1)))))

limited_groups : (q : List Group) → limited q ≡ true → GroupsOk q
limited_groups q h =
    let l = query_limits q h in (
      l.few,
      (
        refl,
        each_of_all lawful_group triples_in nodes_in unused q l.groups
            (omega (arith, l.triples), omega (arith, l.nodes)),
      ),
    )

pub alternatives_codec : Codec alternatives bytes_of (λ q. limited q ≡ true)
alternatives_codec =
    codec_like GroupsOk (λ q. limited q ≡ true) limited_groups groups_limited
    (series_codec alternative with_group group_bytes GroupOk (λ _ u. Fits u) (λ n u g _ ok. ok.1)
    (λ _ u good. alternative_codec u good) 1 most_alternatives (omega arith) unused
    (λ _ _. (omega arith, omega arith)))
