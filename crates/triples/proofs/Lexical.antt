-- What the derived orders of triples and pairs say of a list. Assumes nothing.
--     Lexical, LexicalPair     the answer that comparing two triples, or two pairs, has
use Rattle.std.proofs.Common.{◌≡◌, ℕ, ◌+◌, ◌-◌, true, false, List, Ordering, Less, get_or, arith}
use Rattle.std.proofs.lemmas.Bool.Decides.{nat_tests}
use Rattle.std.specs.Ordering.{ordering_then, nat_cmp, ord_max}
use Rattle.triples.specs.declared.pair.Pair.{Pair}
use Rattle.triples.specs.declared.triple.Triple.{Triple}
use Rattle.triples.specs.Order.{before}
use Rattle.triples.specs.Ascent.{Ascends, Falls}
use Rattle.triples.specs.Finding.{later}
use Rattle.triples.specs.Tables.{Ordered, NotAbove, itself, triple_of}

abbrev pub Lexical : Triple → Triple → Ordering → Type 0
Lexical t u r =
    r ≡ ordering_then (nat_cmp t.subject u.subject)
    (ordering_then (nat_cmp t.property u.property) (nat_cmp t.object u.object))

abbrev pub LexicalPair : Pair → Pair → Ordering → Type 0
LexicalPair x y r = r ≡ ordering_then (nat_cmp x.subject y.subject) (nat_cmp x.object y.object)

lexical_less : (t u : Triple) → Lexical t u Less → before t u ≡ true
lexical_less t u h = grind (arith, nat_tests)

lexical_not : (t u : Triple) (r : Ordering) → Lexical t u r → (r ≡ Less → ⊥) → before t u ≡ false
lexical_not t u r h n = grind (arith, nat_tests)

pub rows_ascend : (rows : List Triple) → Ascends Lexical rows → Ordered itself rows
rows_ascend rows a k d h = lexical_less (get_or rows k d) (get_or rows (k + 1) d) (a k d h)

pub rows_fall : (rows : List Triple) (i : ℕ) → Falls Lexical rows i → NotAbove itself rows i
rows_fall rows i f = record {
  later = f.later;
  inside = f.inside;
  unless = λ d. lexical_not (get_or rows (i - 1) d) (get_or rows i d) f.found (f.compared d) f.unless;
}

pair_less : (property : ℕ) (x y : Pair) → LexicalPair x y Less
    → before (triple_of property x) (triple_of property y) ≡ true
pair_less property x y h = grind (arith, nat_tests)

pair_not : (property : ℕ) (x y : Pair) (r : Ordering) → LexicalPair x y r → (r ≡ Less → ⊥)
    → before (triple_of property x) (triple_of property y) ≡ false
pair_not property x y r h n = grind (arith, nat_tests)

pub pairs_ascend : (property : ℕ) (pairs : List Pair) → Ascends LexicalPair pairs
    → Ordered (triple_of property) pairs
pairs_ascend property pairs a k d h = pair_less property (get_or pairs k d) (get_or pairs (k + 1) d) (a k d h)

pub pairs_fall : (property : ℕ) (pairs : List Pair) (i : ℕ) → Falls LexicalPair pairs i
    → NotAbove (triple_of property) pairs i
pairs_fall property pairs i f = record {
  later = f.later;
  inside = f.inside;
  unless = λ d. pair_not property (get_or pairs (i - 1) d) (get_or pairs i d) f.found (f.compared d) f.unless;
}

-- the greater of two triples does not come before the other
pub max_later : (t u : Triple)
    → ord_max (λ x y. ordering_then (nat_cmp x.subject y.subject)
    (ordering_then (nat_cmp x.property y.property) (nat_cmp x.object y.object))) t u
    ≡ later t u
max_later t u = grind (arith, nat_tests)
