-- The truth of a filter on a row, under what a catalogue says of each term. Assumes nothing.
--     filter_truth entries r ns    the truth of the filter whose nodes are ns
use Rattle.std.specs.Prelude.{◌≡◌, ℕ, ◌<◌, Bool, cond, not, ◌&&◌, List, [], ◌∷◌, ◌++◌, length, Some, None}
use Rattle.std.specs.Prelude.{Option, ◌==◌, slice_index_or}
use Rattle.std.specs.List.{last_or}
use Rattle.catalogue.specs.Entries.{Entry}
use Rattle.query.specs.declared.node.Node as node
use Rattle.query.specs.declared.node.Node.TheVariants.{Equal, Less, Bound, Not, And, Or}
use Rattle.filter.specs.declared.truth.Truth.{Truth}
use Rattle.filter.specs.declared.truth.Truth.TheVariants.{True, Error}
use Rattle.filter.specs.Rows.{Row, none, has_value, number_at}
use Rattle.filter.specs.Truths.{truth_of, is_true, negated, conjunction, disjunction}
use Rattle.filter.specs.Comparing.{Known, equal, less}

-- the term, with its entry
abbrev pub known : (ℕ → Entry) → ℕ → Known
known entries n = record { number = n; entry = entries n }

-- how what stands at the two places compares; an error where a variable among them has no value
abbrev pub compared : (Known → Known → Truth) → (ℕ → Entry) → ℕ → ℕ → Truth
compared how entries a b =
    cond (not (a == none) && not (b == none)) (how (known entries a) (known entries b)) Error

-- the truth of node number i among those given
abbrev pub truth_at : List Truth → ℕ → Truth
truth_at truths i = slice_index_or truths i Error

-- the truth of a node, by those of the nodes that it names
abbrev pub node_truth : (ℕ → Entry) → Row → List Truth → node.Node → Truth
node_truth entries r truths (Equal a b) = compared equal entries (number_at r a) (number_at r b)
node_truth entries r truths (Less a b) = compared less entries (number_at r a) (number_at r b)
node_truth entries r truths (Bound v) = truth_of (has_value r v)
node_truth entries r truths (Not a) = negated (truth_at truths a)
node_truth entries r truths (And a b) = conjunction (truth_at truths a) (truth_at truths b)
node_truth entries r truths (Or a b) = disjunction (truth_at truths a) (truth_at truths b)

-- the truths given, then those of the nodes, each by the ones before it
abbrev pub truths_onto : (ℕ → Entry) → Row → List Truth → List node.Node → List Truth
truths_onto entries r truths [] = truths
truths_onto entries r truths (n ∷ ns) =
    truths_onto entries r (truths ++ node_truth entries r truths n ∷ []) ns

-- the truths of a filter's nodes
abbrev pub truths_of : (ℕ → Entry) → Row → List node.Node → List Truth
truths_of entries r ns = truths_onto entries r [] ns

-- the last truth; true where there is none
abbrev pub last_truth : Option Truth → Truth
last_truth None = True
last_truth (Some t) = t

-- the truth of a filter: that of its last node; without nodes it is true
abbrev pub filter_truth : (ℕ → Entry) → Row → List node.Node → Truth
filter_truth entries r ns = last_truth (last_or None (truths_of entries r ns))

-- the row passes the filter: its truth is true
abbrev pub passes : (ℕ → Entry) → List node.Node → Row → Bool
passes entries ns r = is_true (filter_truth entries r ns)

-- the truths are one for each node, and each is what its node makes of them
pub record Consistent (entries : ℕ → Entry) (r : Row) (ns : List node.Node) (truths : List Truth)
    : Type 0 where
  pub long : length truths ≡ length ns
  pub each : (i : ℕ) (d : node.Node) → i < length ns
      → truth_at truths i ≡ node_truth entries r truths (slice_index_or ns i d)
