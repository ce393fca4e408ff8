-- How much a lawful query's alternatives hold. Assumes nothing.
use Rattle.std.proofs.Common.{◌≡◌, ℕ, ◌*◌, ◌≤◌, ◌<◌, get_or, true, not, List, [], ◌∷◌, map, length, sum_by}
use Rattle.std.proofs.Common.{refl, arith, vec_items, vec_len, sym, ap, subst, ◌∙◌}
use Rattle.query.specs.declared.inspect.Counts.{Counts}
use Rattle.query.specs.declared.query.Query.{Query}
use Rattle.query.specs.Shape.{shape, counts_of}
use Rattle.std.proofs.lemmas.List.{length-map}
use Rattle.std.proofs.lemmas.Bool.{and_parts}
use Rattle.std.proofs.lemmas.List.Sums.{sum_by-cons, get_or-le-sum_by}
use Rattle.query.specs.declared.alternative.Alternative.{Alternative}
use Rattle.std.specs.List.{list_any}
use Rattle.query.specs.Lawful.{shares, total, triples_in, nodes_in}
use Rattle.query.specs.Lawful.{lawful_group, limited, lawful}
use Rattle.query.specs.Limits.{most_blocks, most_alternatives}
use Rattle.query.specs.Limits.{most_in_all}
use Rattle.query.specs.declared.block.Block.{Block}
use Rattle.query.specs.Parts.{Group, part_of, group_of}
use Rattle.query.proofs.Limits.{within_high, group_limits, query_limits}
use Rattle.query.proofs.Lawful.{total_most}

-- the library's sum of the sizes of some values is the total of what the values stand for
pub sum_is_total : {X Y : Type 0} (size : X → ℕ) (of : X → Y) (f : Y → ℕ) → ((x : X) → size x ≡ f (of x))
    → (xs : List X) → sum_by size xs ≡ total f (map of xs)
sum_is_total size of f same [] = refl
sum_is_total size of f same (x ∷ xs) =
    omega (arith, sum_by-cons size x xs, same x, sum_is_total size of f same xs)

-- the same of the parts that blocks have
pub block_triples : (bs : List Block)
    → sum_by (λ b. vec_len b.triples) bs ≡ total (λ p. length p.triples) (map part_of bs)
block_triples bs = sum_is_total _ part_of (λ p. length p.triples) (λ b. b.triples.ok.0) bs

pub block_nodes : (bs : List Block)
    → sum_by (λ b. vec_len b.filter) bs ≡ total (λ p. length p.filter) (map part_of bs)
block_nodes bs = sum_is_total _ part_of (λ p. length p.filter) (λ b. b.filter.ok.0) bs

same_counts : {a a' b b' t t' n n' : ℕ} → a ≡ a' → b ≡ b' → t ≡ t' → n ≡ n'
    → ◌≡◌ {A = Counts} (record { alternatives = a; blocks = b; triples = t; nodes = n })
    (record { alternatives = a'; blocks = b'; triples = t'; nodes = n' })
same_counts p q r s = cc

-- the sums over a query's alternatives are within its limits
pub record Sums (xs : List Alternative) : Type 0 where
  pub blocks : sum_by (λ a. vec_len a.blocks) xs ≤ most_blocks * most_alternatives
  pub triples : sum_by (λ a. triples_in (group_of a)) xs ≤ most_in_all
  pub nodes : sum_by (λ a. nodes_in (group_of a)) xs ≤ most_in_all

few_blocks : (g : Group) → lawful_group g ≡ true → length g.blocks ≤ most_blocks
few_blocks g h = within_high 0 most_blocks (length g.blocks) (group_limits g h).few

-- the same of what alternatives have
pub all_blocks : (xs : List Alternative)
    → sum_by (λ a. vec_len a.blocks) xs ≡ total (λ g. length g.blocks) (map group_of xs)
all_blocks xs = sum_is_total _ group_of (λ g. length g.blocks)
    (λ a. a.blocks.ok.0 ∙ sym (length-map (vec_items a.blocks) part_of)) xs

pub all_of : (f : Group → ℕ) (xs : List Alternative)
    → sum_by (λ a. f (group_of a)) xs ≡ total f (map group_of xs)
all_of f xs = sum_is_total _ group_of f (λ _. refl) xs

pub query_sums : (q : Query) (xs : List Alternative) → xs ≡ vec_items q.alternatives → Sums xs
query_sums q xs is =
    let gs = map group_of xs in
    let h = subst (λ l. lawful (map group_of l) ≡ true) (sym is) q.keeps in
    let l = query_limits gs (and_parts (limited gs) (not (list_any shares gs)) h).0 in
    let many = within_high 1 most_alternatives (length gs) l.few in
    record {
      blocks = omega (
        arith,
        many,
        total_most (λ g. length g.blocks) most_blocks lawful_group gs few_blocks l.groups,
        all_blocks xs,
      );
      triples = omega (arith, l.triples, all_of triples_in xs);
      nodes = omega (arith, l.nodes, all_of nodes_in xs);
    }

-- the number of alternatives and the sums over them are the counts
pub sums_counted : (q : Query) (xs : List Alternative) → xs ≡ vec_items q.alternatives → (b t n : ℕ)
    → b ≡ sum_by (λ a. vec_len a.blocks) xs
    → t ≡ sum_by (λ a. triples_in (group_of a)) xs
    → n ≡ sum_by (λ a. nodes_in (group_of a)) xs
    → ◌≡◌ {A = Counts} (record { alternatives = length xs; blocks = b; triples = t; nodes = n })
    (counts_of (shape q))
sums_counted q xs is b t n eb et en =
    same_counts (sym (length-map xs group_of)) (eb ∙ all_blocks xs) (et ∙ all_of triples_in xs)
    (en ∙ all_of nodes_in xs)
    ∙ ap (λ l. counts_of (map group_of l)) is

-- the size of one element is within what all have
pub one_within : {X : Type 0} (f : X → ℕ) (most : ℕ) (xs : List X) (i : ℕ) (x : X) → sum_by f xs ≤ most
    → i < length xs → x ≡ get_or xs i x → f x ≤ most
one_within f most xs i x few l is = omega (arith, get_or-le-sum_by f xs i x l, ap f is, few)
