-- Which queries there are, by their parts alone. Assumes nothing.
--     lawful q     the query whose alternatives are q keeps every limit, and its blocks share variables
--                  only with
--                  the required triples
use Rattle.std.specs.Prelude.{ℕ, zero, suc, ◌+◌, Bool, true, false, not, ◌&&◌, ◌||◌, List, [], ◌∷◌, length}
use Rattle.std.specs.Prelude.{◌==◌, nat_le, nat_lt}
use Rattle.std.specs.List.{list_all, list_any}
use Rattle.query.specs.declared.place.Place.{Place}
use Rattle.query.specs.declared.place.Place.TheVariants.{Variable, Term}
use Rattle.query.specs.declared.node.Node.{Node}
use Rattle.query.specs.declared.node.Node.TheVariants.{Equal, Less, Bound, Not, And, Or}
use Rattle.query.specs.declared.pattern.TriplePattern.{TriplePattern}
use Rattle.query.specs.Parts.{Part, Group}
use Rattle.query.specs.Limits.{within, lawful_place, most_variable, variables}
use Rattle.query.specs.Limits.{most_alternatives, most_blocks, most_in_part, most_in_all}

-- p holds of two elements
abbrev pub in_two : {A : Type 0} → (A → Bool) → List A → Bool
in_two p [] = false
in_two p (x ∷ xs) = (p x && list_any p xs) || in_two p xs

-- the sum of f over the elements; the library's sum_by folds from the left, and does not unfold at a first
-- element, as the laws of the grammar need
abbrev pub total : {A : Type 0} → (A → ℕ) → List A → ℕ
total f [] = 0
total f (x ∷ xs) = f x + total f xs

-- the three places of the triple are lawful
abbrev pub lawful_triple : TriplePattern → Bool
lawful_triple t = lawful_place t.subject && (lawful_place t.property && lawful_place t.object)

-- node number i of a filter: its places and its variable are lawful, and it names only lower nodes
abbrev pub lawful_node : ℕ → Node → Bool
lawful_node i (Equal a b) = lawful_place a && lawful_place b
lawful_node i (Less a b) = lawful_place a && lawful_place b
lawful_node i (Bound v) = within 0 most_variable v
lawful_node i (Not a) = nat_lt a i
lawful_node i (And a b) = nat_lt a i && nat_lt b i
lawful_node i (Or a b) = nat_lt a i && nat_lt b i

-- the nodes, of which the first has the number i, are lawful each at its number
abbrev pub lawful_nodes : ℕ → List Node → Bool
lawful_nodes i [] = true
lawful_nodes i (n ∷ ns) = lawful_node i n && lawful_nodes (i + 1) ns

-- at most sixteen nodes, numbered from 0
abbrev pub lawful_filter : List Node → Bool
lawful_filter ns = within 0 most_in_part (length ns) && lawful_nodes 0 ns

-- at least low and at most sixteen lawful triples
abbrev pub lawful_triples : ℕ → List TriplePattern → Bool
lawful_triples low ts = within low most_in_part (length ts) && list_all lawful_triple ts

-- a block has at least one triple
abbrev pub lawful_part : Part → Bool
lawful_part b = lawful_triples 1 b.triples && lawful_filter b.filter

-- the place is the variable v
abbrev pub is_variable : ℕ → Place → Bool
is_variable v (Variable w) = v == w
is_variable v (Term t) = false

-- the variable v is in one of the triples
abbrev pub mentions : ℕ → List TriplePattern → Bool
mentions v ts = list_any (λ t. is_variable v t.subject
    || (is_variable v t.property || is_variable v t.object)) ts

-- some variable below n is in the triples of two blocks and not in the required triples
abbrev pub shared_below : ℕ → Group → Bool
shared_below zero g = false
shared_below (suc v) g =
    (in_two (λ b. mentions v b.triples) g.blocks && not (mentions v g.required)) || shared_below v g

-- some variable is in the triples of two blocks and not in the required triples
abbrev pub shares : Group → Bool
shares g = shared_below variables g

-- how many triples the alternative has, with those of its blocks
abbrev pub triples_in : Group → ℕ
triples_in g = length g.required + total (λ b. length b.triples) g.blocks

-- how many filter nodes the alternative has, with those of its blocks
abbrev pub nodes_in : Group → ℕ
nodes_in g = total (λ b. length b.filter) g.blocks + length g.filter

-- an alternative keeps its limits
abbrev pub lawful_group : Group → Bool
lawful_group g =
    lawful_triples 0 g.required
    && (within 0 most_blocks (length g.blocks)
    && (list_all lawful_part g.blocks && lawful_filter g.filter))

-- a query keeps its limits
abbrev pub limited : List Group → Bool
limited q =
    within 1 most_alternatives (length q)
    && (list_all lawful_group q
    && (nat_le (total triples_in q) most_in_all && nat_le (total nodes_in q) most_in_all))

-- a query keeps its limits, and no alternative's blocks share a variable that its required triples lack
abbrev pub lawful : List Group → Bool
lawful q = limited q && not (list_any shares q)
