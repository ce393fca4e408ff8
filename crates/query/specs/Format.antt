-- A query's bytes. Every number is written in seven-bit groups. Assumes nothing.
--     counted f xs     how many there are, then each in order
--     bytes_of q       the bytes of the query whose alternatives are q
use Rattle.std.specs.Prelude.{ℕ, List, ◌++◌, length}
use Rattle.std.specs.List.{flat_map}
use Rattle.varint.specs.Encode.{encode}
use Rattle.query.specs.declared.place.Place.{Place}
use Rattle.query.specs.declared.kind.Kind.{Kind}
use Rattle.query.specs.declared.kind.Kind.TheVariants as kind
use Rattle.query.specs.declared.node.Node.{Node}
use Rattle.query.specs.declared.node.Node.TheVariants.{Equal, Less, Bound, Not, And, Or}
use Rattle.query.specs.declared.pattern.TriplePattern.{TriplePattern}
use Rattle.query.specs.Parts.{Part, Group}
use Rattle.query.specs.Codes.{code_of, number_of}

-- how many there are, then each in order
abbrev pub counted : {A : Type 0} → (A → List ℕ) → List A → List ℕ
counted f xs = encode (length xs) ++ flat_map f xs

-- a place by its code
abbrev pub place_bytes : Place → List ℕ
place_bytes p = encode (code_of p)

-- a triple pattern: subject, property, object
abbrev pub triple_bytes : TriplePattern → List ℕ
triple_bytes t = place_bytes t.subject ++ (place_bytes t.property ++ place_bytes t.object)

-- the kind of a node
abbrev pub kind_of : Node → Kind
kind_of (Equal a b) = kind.Equal
kind_of (Less a b) = kind.Less
kind_of (Bound v) = kind.Bound
kind_of (Not a) = kind.Not
kind_of (And a b) = kind.And
kind_of (Or a b) = kind.Or

-- what follows a node's kind: its places, its variable or the nodes that it names
abbrev pub operand_bytes : Node → List ℕ
operand_bytes (Equal a b) = place_bytes a ++ place_bytes b
operand_bytes (Less a b) = place_bytes a ++ place_bytes b
operand_bytes (Bound v) = encode v
operand_bytes (Not a) = encode a
operand_bytes (And a b) = encode a ++ encode b
operand_bytes (Or a b) = encode a ++ encode b

-- a node: the number of its kind, then its operands
abbrev pub node_bytes : Node → List ℕ
node_bytes n = encode (number_of (kind_of n)) ++ operand_bytes n

-- a block: its triples, then its filter
abbrev pub part_bytes : Part → List ℕ
part_bytes b = counted triple_bytes b.triples ++ counted node_bytes b.filter

-- an alternative: its required triples, its blocks, its group filter
abbrev pub group_bytes : Group → List ℕ
group_bytes g = counted triple_bytes g.required ++
    (counted part_bytes g.blocks ++ counted node_bytes g.filter)

-- a query: its alternatives
abbrev pub bytes_of : List Group → List ℕ
bytes_of q = counted group_bytes q
