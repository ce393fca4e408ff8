-- What the calls answer of a query's parts. Assumes nothing.
--     group_filter q a          the nodes of the group filter of alternative a, if there is one
--     block_filter q a b        the nodes of the filter of its block b, if there is one
--     Settled entries r ns t    t is the last of truths that the nodes ns have together
use Rattle.std.specs.Prelude.{◌≡◌, ℕ, List, Some, None, Option, slice_get}
use Rattle.std.specs.List.{last_or}
use Rattle.std.specs.Option.{option_map, option_and_then}
use Rattle.catalogue.specs.Entries.{Entry}
use Rattle.query.specs.declared.node.Node as node
use Rattle.query.specs.Parts.{Group}
use Rattle.filter.specs.declared.truth.Truth.{Truth}
use Rattle.filter.specs.Rows.{Row}
use Rattle.filter.specs.Filters.{filter_truth, last_truth, Consistent}

-- the nodes of the group filter of alternative a; none where the query has no such alternative
abbrev pub group_filter : List Group → ℕ → Option (List node.Node)
group_filter q a = option_map (λ g. g.filter) (slice_get q a)

-- the nodes of the filter of block b of alternative a; none where there is no such alternative or block
abbrev pub block_filter : List Group → ℕ → ℕ → Option (List node.Node)
block_filter q a b =
    option_and_then (λ g. option_map (λ p. p.filter) (slice_get g.blocks b)) (slice_get q a)

-- the truth of the filter on r; none where there is no filter
abbrev pub truth_on : (ℕ → Entry) → Row → Option (List node.Node) → Option Truth
truth_on entries r = option_map (filter_truth entries r)

-- some truths of the nodes are consistent, and t is the last of them; true where there are no nodes
abbrev pub Settled : (ℕ → Entry) → Row → List node.Node → Truth → Type 0
Settled entries r ns t = (ts : List Truth) × (Consistent entries r ns ts × (t ≡ last_truth (last_or None ts)))

-- the answer is settled by the filter's nodes; none where there is no filter
abbrev pub Answered : (ℕ → Entry) → Row → Option (List node.Node) → Option Truth → Type 0
Answered entries r filter None = filter ≡ None
Answered entries r filter (Some t) = (ns : List node.Node) × ((filter ≡ Some ns) × Settled entries r ns t)
