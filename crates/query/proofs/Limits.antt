-- What keeping a limit says: of a number, of an alternative, of a query. Assumes nothing.
use Rattle.std.proofs.Common.{◌≡◌, ℕ, ◌≤◌, true, ◌&&◌, leb, List, length}
use Rattle.std.proofs.lemmas.Bool.{leb-true, le-leb, and_parts, and_from}
use Rattle.std.specs.List.{list_all}
use Rattle.query.specs.Lawful.{total, lawful_triples, lawful_part, lawful_filter, lawful_group}
use Rattle.query.specs.Lawful.{limited, triples_in, nodes_in}
use Rattle.query.specs.Limits.{within, most_alternatives, most_blocks, most_in_all}
use Rattle.query.specs.Parts.{Group}

-- within

pub within_from : (low high n : ℕ) → low ≤ n → n ≤ high → within low high n ≡ true
within_from low high n l h = and_from (leb low n) (leb n high) (le-leb low n l) (le-leb n high h)

pub within_low : (low high n : ℕ) → within low high n ≡ true → low ≤ n
within_low low high n w = leb-true low n (and_parts (leb low n) (leb n high) w).0

pub within_high : (low high n : ℕ) → within low high n ≡ true → n ≤ high
within_high low high n w = leb-true n high (and_parts (leb low n) (leb n high) w).1

-- lawful_group

-- the limits of an alternative, each by itself
pub record GroupLimits (g : Group) : Type 0 where
  pub required : lawful_triples 0 g.required ≡ true
  pub few : within 0 most_blocks (length g.blocks) ≡ true
  pub blocks : list_all lawful_part g.blocks ≡ true
  pub filter : lawful_filter g.filter ≡ true

pub group_limits : (g : Group) → lawful_group g ≡ true → GroupLimits g
group_limits g h =
    let few = within 0 most_blocks (length g.blocks) in
    let blocks = list_all lawful_part g.blocks in
    let filter = lawful_filter g.filter in
    let a = and_parts (lawful_triples 0 g.required) (few && (blocks && filter)) h in
    let b = and_parts few (blocks && filter) a.1 in
    let c = and_parts blocks filter b.1 in
    record { required = a.0; few = b.0; blocks = c.0; filter = c.1 }

-- limited

-- the limits of a query, each by itself
pub record QueryLimits (q : List Group) : Type 0 where
  pub few : within 1 most_alternatives (length q) ≡ true
  pub groups : list_all lawful_group q ≡ true
  pub triples : total triples_in q ≤ most_in_all
  pub nodes : total nodes_in q ≤ most_in_all

pub query_limits : (q : List Group) → limited q ≡ true → QueryLimits q
query_limits q h =
    let groups = list_all lawful_group q in
    let triples = leb (total triples_in q) most_in_all in
    let nodes = leb (total nodes_in q) most_in_all in
    let a = and_parts (within 1 most_alternatives (length q)) (groups && (triples && nodes)) h in
    let b = and_parts groups (triples && nodes) a.1 in
    let c = and_parts triples nodes b.1 in
    record {
      few = a.0;
      groups = b.0;
      triples = leb-true (total triples_in q) most_in_all c.0;
      nodes = leb-true (total nodes_in q) most_in_all c.1;
    }
