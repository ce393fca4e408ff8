-- What a query keeps, of the filters of its parts. Assumes nothing.
use Rattle.std.proofs.Common.{◌≡◌, ℕ, ◌<◌, Bool, true, not, List, length, map, get_or, Some, None, Option}
use Rattle.std.proofs.Common.{refl, sym, ap, ◌∙◌, subst}
use Rattle.std.specs.List.{slice_get, list_all, list_any}
use Rattle.std.specs.Option.{option_map, option_and_then}
use Rattle.std.proofs.lemmas.Bool.{and_parts}
use Rattle.std.proofs.lemmas.List.Sums.{AllPass-from_list_all}
use Rattle.std.proofs.lemmas.Option.{slice_get_read, slice_get-map, slice_get_within, get_or_from_slice_get}
use Rattle.query.specs.declared.node.Node.{Node}
use Rattle.query.specs.declared.query.Query.{Query}
use Rattle.query.specs.Lawful.{lawful_group, lawful_part, lawful_filter, lawful_triples, limited, shares}
use Rattle.query.specs.Parts.{Part, Group}
use Rattle.query.specs.Shape.{shape}
use Rattle.query.proofs.Limits.{group_limits, query_limits}
use Rattle.filter.specs.Calls.{group_filter, block_filter}

-- slice_get

-- the element that ys has where xs has x, and ys is what f makes of xs
pub slice_get-made : {X Y : Type 0} (f : X → Y) (xs : List X) (ys : List Y) (i : ℕ) (x : X) → map f xs ≡ ys
    → i < length xs → x ≡ get_or xs i x → slice_get ys i ≡ Some (f x)
slice_get-made f xs ys i x made here is =
    ap (λ l. slice_get l i) (sym made) ∙ slice_get-map f xs i
    ∙ ap (option_map f) (slice_get_read xs (length xs) i x refl here is)

-- an element passes the test that all pass
passes_at : {X : Type 0} (test : X → Bool) (xs : List X) (i : ℕ) (x : X) → list_all test xs ≡ true
    → slice_get xs i ≡ Some x → test x ≡ true
passes_at test xs i x every at =
    subst (λ y. test y ≡ true) (get_or_from_slice_get xs i x x at)
    (AllPass-from_list_all test xs every i x (slice_get_within xs i x at))

-- option_map

-- what is made of a value that is there keeps what every such value keeps
made_keeps : {X Y : Type 0} (f : X → Y) (o : Option X) (y : Y) (P : Y → Type 0)
    → ((x : X) → o ≡ Some x → P (f x)) → option_map f o ≡ Some y → P y
made_keeps f None y P keeps at = cc
made_keeps f (Some x) y P keeps at = let is : f x ≡ y = cc in subst P is (keeps x refl)

-- group_filter, block_filter

group_lawful : (q : Query) (a : ℕ) (g : Group) → slice_get (shape q) a ≡ Some g → lawful_group g ≡ true
group_lawful q a g at =
    let w = and_parts (limited (shape q)) (not (list_any shares (shape q))) q.keeps in
    passes_at lawful_group (shape q) a g (query_limits (shape q) w.0).groups at

-- the group filters of a query are lawful
pub group_filter_lawful : (q : Query) (a : ℕ) (ns : List Node) → group_filter (shape q) a ≡ Some ns
    → lawful_filter ns ≡ true
group_filter_lawful q a ns =
    made_keeps (λ g. g.filter) (slice_get (shape q) a) ns (λ l. lawful_filter l ≡ true)
    (λ g at. (group_limits g (group_lawful q a g at)).filter)

-- the nodes of the block p of the alternative g
pub block_filter-at : (q : List Group) (a b : ℕ) (g : Group) (p : Part) → slice_get q a ≡ Some g
    → slice_get g.blocks b ≡ Some p → block_filter q a b ≡ Some p.filter
block_filter-at q a b g p at within =
    ap (option_and_then (λ h. option_map (λ l. l.filter) (slice_get h.blocks b))) at
    ∙ ap (option_map (λ l. l.filter)) within

part_filter_lawful : (g : Group) (b : ℕ) (ns : List Node) → lawful_group g ≡ true
    → option_map (λ p. p.filter) (slice_get g.blocks b) ≡ Some ns → lawful_filter ns ≡ true
part_filter_lawful g b ns law =
    made_keeps (λ p. p.filter) (slice_get g.blocks b) ns (λ l. lawful_filter l ≡ true)
    (λ p at. (and_parts (lawful_triples 1 p.triples) (lawful_filter p.filter)
    (passes_at lawful_part g.blocks b p (group_limits g law).blocks at)).1)

of_group : (o : Option Group) (b : ℕ) (ns : List Node) → ((g : Group) → o ≡ Some g → lawful_group g ≡ true)
    → option_and_then (λ g. option_map (λ p. p.filter) (slice_get g.blocks b)) o ≡ Some ns
    → lawful_filter ns ≡ true
of_group None b ns law at = cc
of_group (Some g) b ns law at = part_filter_lawful g b ns (law g refl) at

-- the filters of a query's blocks are lawful
pub block_filter_lawful : (q : Query) (a b : ℕ) (ns : List Node) → block_filter (shape q) a b ≡ Some ns
    → lawful_filter ns ≡ true
block_filter_lawful q a b ns = of_group (slice_get (shape q) a) b ns (group_lawful q a)
