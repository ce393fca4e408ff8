-- What a reader makes of bytes: the query, or the first number that is wrong. Assumes nothing.
--     room used       how many triples of a part, or nodes of a filter, may come where so many were read
--                     before
--     Used            how many triples and filter nodes were read before
--     verdict bytes   what the whole byte string is
use Rattle.std.specs.Prelude.{ℕ, ◌+◌, ◌-◌, min, cond, List, [], ◌∷◌, length, nat_lt}
use Rattle.refusal.specs.declared.refusal.Refusal.{Refusal}
use Rattle.refusal.specs.declared.refusal.Refusal.TheVariants.{PlaceCode, NodeInvalid, BytesLeft}
use Rattle.refusal.specs.declared.refusal.Refusal.TheVariants.{SharedByBlocks}
use Rattle.query.specs.declared.place.Place.{Place}
use Rattle.query.specs.declared.kind.Kind.{Kind}
use Rattle.query.specs.declared.kind.Kind.TheVariants as kinds
use Rattle.query.specs.declared.node.Node.{Node}
use Rattle.query.specs.declared.node.Node.TheVariants.{Equal, Less, Bound, Not, And, Or}
use Rattle.query.specs.declared.pattern.TriplePattern.{TriplePattern}
use Rattle.query.specs.Parts.{Part, Group}
use Rattle.query.specs.Codes.{when, place_from, kind_from}
use Rattle.query.specs.Limits.{within, most_variable}
use Rattle.std.specs.List.{list_any}
use Rattle.query.specs.Lawful.{total, triples_in, nodes_in, shares}
use Rattle.query.specs.Limits.{most_alternatives, most_blocks}
use Rattle.query.specs.Limits.{most_in_part, most_in_all}
use Rattle.query.specs.Readers.{Read, took, refused, Reader, role, one, both, series}

-- what is left of the most in one part where used of the most in all are taken
abbrev pub room : ℕ → ℕ
room used = min most_in_part (most_in_all - used)

-- a place
abbrev pub place : Reader Place
place = role PlaceCode place_from

-- a triple pattern
abbrev pub triple : Reader TriplePattern
triple =
    both {B = Place × Place} place (λ _. both place (λ _. place) (λ p o. (p, o)))
    (λ s po. record { subject = s; property = po.0; object = po.1 })

-- at least low triples, where used were read before
abbrev pub triples : ℕ → ℕ → Reader (List TriplePattern)
triples low used = series low (room used) (λ (_ : ℕ). triple) (λ i _. i + 1) 0

-- a variable that a node names
abbrev pub variable : Reader ℕ
variable = role NodeInvalid (λ v. when (within 0 most_variable v) v)

-- a node that node number i names
abbrev pub lower : ℕ → Reader ℕ
lower i = role NodeInvalid (λ a. when (nat_lt a i) a)

-- what follows the kind of node number i
abbrev pub operands : ℕ → Kind → Reader Node
operands i kinds.Equal = both place (λ _. place) (λ a b. Equal a b)
operands i kinds.Less = both place (λ _. place) (λ a b. Less a b)
operands i kinds.Bound = one variable (λ v. Bound v)
operands i kinds.Not = one (lower i) (λ a. Not a)
operands i kinds.And = both (lower i) (λ _. lower i) (λ a b. And a b)
operands i kinds.Or = both (lower i) (λ _. lower i) (λ a b. Or a b)

-- the kind of a node
abbrev pub kind : Reader Kind
kind = role NodeInvalid kind_from

-- node number i of a filter
abbrev pub node : ℕ → Reader Node
node i = both kind (operands i) (λ _ n. n)

-- a filter, where used nodes were read before
abbrev pub filter : ℕ → Reader (List Node)
filter used = series 0 (room used) node (λ i _. i + 1) 0

-- how many triples and filter nodes were read before
pub record Used : Type 0 where
  pub triples : ℕ
  pub nodes : ℕ

-- a block
abbrev pub block : Used → Reader Part
block u = both (triples 1 u.triples) (λ _. filter u.nodes)
    (λ ts ns. record { triples = ts; filter = ns })

-- what is used with a block more
abbrev pub with_part : Used → Part → Used
with_part u b = record { triples = u.triples + length b.triples; nodes = u.nodes + length b.filter }

-- the blocks of an alternative
abbrev pub blocks : Used → Reader (List Part)
blocks u = series 0 most_blocks block with_part u

-- what is used with so many triples more
abbrev pub with_triples : Used → ℕ → Used
with_triples u n = record { triples = u.triples + n; nodes = u.nodes }

-- how many nodes are used behind the blocks
abbrev pub nodes_after : Used → List Part → ℕ
nodes_after u bs = u.nodes + total (λ b. length b.filter) bs

-- what is used with these blocks more
abbrev pub with_parts : Used → List Part → Used
with_parts u bs = record
    { triples = u.triples + total (λ b. length b.triples) bs; nodes = nodes_after u bs }

-- what is used with so many nodes more
abbrev pub with_nodes : Used → ℕ → Used
with_nodes u n = record { triples = u.triples; nodes = u.nodes + n }

-- an alternative
abbrev pub alternative : Used → Reader Group
alternative u =
    both {B = List Part × List Node} (triples 0 u.triples)
    (λ ts. both (blocks (with_triples u (length ts))) (λ bs. filter (nodes_after u bs)) (λ bs ns. (bs, ns)))
    (λ ts rest. record { required = ts; blocks = rest.0; filter = rest.1 })

-- what is used with an alternative more
abbrev pub with_group : Used → Group → Used
with_group u g = record { triples = u.triples + triples_in g; nodes = u.nodes + nodes_in g }

-- nothing is used yet
abbrev pub unused : Used
unused = record { triples = 0; nodes = 0 }

-- the alternatives of a query
abbrev pub alternatives : Reader (List Group)
alternatives = series 1 most_alternatives alternative with_group unused

-- a byte string is a query, or is refused at a place
pub data Verdict : Type 0 where
  accepted : List Group → Verdict
  rejected : Refusal → ℕ → Verdict

-- the alternatives were read: nothing may follow, and then no variable may be shared by blocks alone
abbrev pub concluded : Read (List Group) → Verdict
concluded (refused r at) = rejected r at
concluded (took q at (b ∷ bytes)) = rejected BytesLeft at
concluded (took q at []) = cond (list_any shares q) (rejected SharedByBlocks at) (accepted q)

-- what the byte string is
unfoldable pub verdict : List ℕ → Verdict
verdict bytes = concluded (alternatives 0 bytes)
