-- What a lawful query's lists have that writing them asks for. Assumes nothing.
--     Writable ok xs     few enough to count in 32 bits, and each is ok
use Rattle.std.proofs.Common.{◌≡◌, ℕ, ◌+◌, ◌≤◌, Bool, true, ◌&&◌, List, [], ◌∷◌, ◌++◌, map, length, sym, refl}
use Rattle.std.proofs.Common.{ap, ◌∙◌, arith}
use Rattle.std.proofs.lemmas.List.{length-map}
use Rattle.std.proofs.lemmas.Bool.{and_parts}
use Rattle.std.proofs.lemmas.List.Elements.{All-nil, All-cons}
use Rattle.std.specs.List.{flat_map, All}
use Rattle.varint.specs.Encode.{encode, largest}
use Rattle.query.specs.declared.node.Node.{Node}
use Rattle.query.specs.declared.node.Node.TheVariants.{Equal, Less, Bound, Not, And, Or}
use Rattle.query.specs.declared.pattern.TriplePattern.{TriplePattern}
use Rattle.query.specs.Limits.{within}
use Rattle.query.specs.Format.{counted}
use Rattle.std.specs.List.{list_all}
use Rattle.query.specs.Lawful.{lawful_triple, lawful_triples, lawful_node, lawful_nodes, lawful_filter}
use Rattle.query.specs.Limits.{most_in_part}
use Rattle.query.specs.Writes.{places_lawful}
use Rattle.query.proofs.Limits.{within_high}

-- few enough to count in 32 bits, and each is ok
abbrev pub Writable : {A : Type 0} → (A → Bool) → List A → Type 0
Writable ok xs = (length xs ≤ largest) × All (λ x. ok x ≡ true) xs

-- every

all_every : {A : Type 0} (ok : A → Bool) (xs : List A) → list_all ok xs ≡ true → All (λ x. ok x ≡ true) xs
all_every ok [] h = All-nil (λ x. ok x ≡ true)
all_every ok (x ∷ xs) h =
    let w = and_parts (ok x) (list_all ok xs) h in
    All-cons (λ x. ok x ≡ true) x xs w.0 (all_every ok xs w.1)

every_map : {A B : Type 0} (f : A → B) (ok : B → Bool) (xs : List A)
    → list_all ok (map f xs) ≡ list_all (λ x. ok (f x)) xs
every_map f ok [] = refl
every_map f ok (x ∷ xs) = ap (λ b. ok (f x) && b) (every_map f ok xs)

few : (low high n : ℕ) → high ≤ most_in_part → within low high n ≡ true → n ≤ largest
few low high n s h = omega (arith, within_high low high n h)

-- triples

pub triples_writable : (low : ℕ) (ts : List TriplePattern) → lawful_triples low ts ≡ true
    → Writable lawful_triple ts
triples_writable low ts h =
    let w = and_parts (within low most_in_part (length ts)) (list_all lawful_triple ts) h in
    (few low most_in_part (length ts) (omega arith) w.0, all_every lawful_triple ts w.1)

-- nodes

node_places : (i : ℕ) (n : Node) → lawful_node i n ≡ true → places_lawful n ≡ true
node_places i (Equal a b) h = h
node_places i (Less a b) h = h
node_places i (Bound v) h = refl
node_places i (Not a) h = refl
node_places i (And a b) h = refl
node_places i (Or a b) h = refl

nodes_places : (i : ℕ) (ns : List Node) → lawful_nodes i ns ≡ true → All (λ n. places_lawful n ≡ true) ns
nodes_places i [] h = All-nil (λ n. places_lawful n ≡ true)
nodes_places i (n ∷ ns) h =
    let w = and_parts (lawful_node i n) (lawful_nodes (i + 1) ns) h in
    All-cons (λ n. places_lawful n ≡ true) n ns (node_places i n w.0) (nodes_places (i + 1) ns w.1)

pub filter_writable : (ns : List Node) → lawful_filter ns ≡ true → Writable places_lawful ns
filter_writable ns h =
    let w = and_parts (within 0 most_in_part (length ns)) (lawful_nodes 0 ns) h in
    (few 0 most_in_part (length ns) (omega arith) w.0, nodes_places 0 ns w.1)

-- parts seen through f

pub mapped_writable : {A B : Type 0} (f : A → B) (ok : B → Bool) (low high : ℕ) (xs : List A) → high
    ≤ most_in_part
    → within low high (length (map f xs)) ≡ true → list_all ok (map f xs) ≡ true → Writable (λ x. ok (f x)) xs
mapped_writable f ok low high xs s h e = (
  omega (arith, few low high (length (map f xs)) s h, length-map xs f),
  all_every (λ x. ok (f x)) xs (sym (every_map f ok xs) ∙ e),
)

flat_map-map : {A B : Type 0} (f : A → B) (code : B → List ℕ) (xs : List A) → flat_map (λ x. code (f x)) xs
    ≡ flat_map code (map f xs)
flat_map-map f code [] = refl
flat_map-map f code (x ∷ xs) = ap (λ l. code (f x) ++ l) (flat_map-map f code xs)

pub counted-map : {A B : Type 0} (f : A → B) (code : B → List ℕ) (xs : List A) → counted (λ x. code (f x)) xs
    ≡ counted code (map f xs)
counted-map f code xs =
    ap (λ n. encode n ++ flat_map (λ x. code (f x)) xs) (sym (length-map xs f))
    ∙ ap (λ l. encode (length (map f xs)) ++ l) (flat_map-map f code xs)
