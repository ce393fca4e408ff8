-- Laws of what the calls answer. Assumes nothing.
use Rattle.std.proofs.Common.{◌≡◌, ℕ, true, List}
use Rattle.catalogue.specs.Entries.{Entry}
use Rattle.query.specs.declared.node.Node.{Node}
use Rattle.query.specs.Lawful.{lawful_filter}
use Rattle.filter.specs.declared.truth.Truth.{Truth}
use Rattle.filter.specs.Rows.{Row}
use Rattle.filter.specs.Filters.{truths_of, filter_truth}
use Rattle.filter.specs.Calls.{Settled}
use Rattle.filter.proofs.Consistency.{truths_are_the_only}

-- the truth of a lawful filter is settled by its nodes
pub settled : (entries : ℕ → Entry) (r : Row) (ns : List Node) (t : Truth) → lawful_filter ns ≡ true
    → t ≡ filter_truth entries r ns → Settled entries r ns t
settled entries r ns t law is = (truths_of entries r ns, ((truths_are_the_only entries r ns law).0, is))
