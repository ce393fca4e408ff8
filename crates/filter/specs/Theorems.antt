-- What this crate proves of filters. Assumes nothing.
use Rattle.std.specs.Prelude.{◌≡◌, ℕ, true, List}
use Rattle.catalogue.specs.Entries.{Entry}
use Rattle.query.specs.declared.node.Node as node
use Rattle.query.specs.Lawful.{lawful_filter}
use Rattle.filter.specs.declared.truth.Truth.{Truth}
use Rattle.filter.specs.Rows.{Row}
use Rattle.filter.specs.Filters.{truths_of, Consistent}

-- the truths of the nodes ns of a lawful filter are consistent, and no other truths of them are
abbrev pub TruthsAreTheOnly : Type 0
TruthsAreTheOnly = (entries : ℕ → Entry) (r : Row) (ns : List node.Node) → lawful_filter ns ≡ true
    → Consistent entries r ns (truths_of entries r ns)
    × ((ts : List Truth) → Consistent entries r ns ts → ts ≡ truths_of entries r ns)
