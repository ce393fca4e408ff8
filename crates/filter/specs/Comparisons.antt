-- The comparisons of a filter's nodes, read off a catalogue before the filter is evaluated. Assumes nothing.
--     comparison entries r n    how what the node n compares compares; an error where n compares nothing
--     Agree n ts us             the truths ts and us with numbers below n are the same
use Rattle.std.specs.Prelude.{◌≡◌, ℕ, ◌<◌, cond, not, ◌&&◌, List, [], Some, None, Option, ◌==◌}
use Rattle.catalogue.specs.Entries.{Entry}
use Rattle.query.specs.declared.node.Node as node
use Rattle.query.specs.declared.node.Node.TheVariants.{Equal, Less, Bound, Not, And, Or}
use Rattle.filter.specs.declared.term.Term.{Term}
use Rattle.filter.specs.declared.truth.Truth.{Truth}
use Rattle.filter.specs.declared.truth.Truth.TheVariants.{Error}
use Rattle.filter.specs.Rows.{Row, none}
use Rattle.filter.specs.Comparing.{Known}
use Rattle.filter.specs.Terms.{known_of}
use Rattle.filter.specs.Filters.{known, truth_at, node_truth}

-- both terms as they are held
abbrev pub both_known : Term × Term → Known × Known
both_known p = (known_of p.0, known_of p.1)

-- the two terms with their entries; none where one of them stands for no value
abbrev pub both_at : (ℕ → Entry) → ℕ → ℕ → Option (Known × Known)
both_at entries a b =
    cond (not (a == none) && not (b == none)) (Some (known entries a, known entries b)) None

-- the truth of the node, if it compares two places and so names no other node; an error if it compares
-- nothing
abbrev pub comparison : (ℕ → Entry) → Row → node.Node → Truth
comparison entries r (Equal a b) = node_truth entries r [] (Equal a b)
comparison entries r (Less a b) = node_truth entries r [] (Less a b)
comparison entries r (Bound v) = Error
comparison entries r (Not a) = Error
comparison entries r (And a b) = Error
comparison entries r (Or a b) = Error

-- the truths with the numbers below n are the same
abbrev pub Agree : ℕ → List Truth → List Truth → Type 0
Agree n ts us = (i : ℕ) → i < n → truth_at ts i ≡ truth_at us i
