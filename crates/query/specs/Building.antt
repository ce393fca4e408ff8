-- What the builder knows of the query that comes in. Assumes nothing.
--     Tracks b d    the builder b knows the variables of the draft d, and keeps d if it keeps anything
use Rattle.std.specs.Prelude.{◌≡◌, ℕ, ◌<◌, true, length, Some, None, Option}
use Rattle.query.specs.declared.builder.Builder.{Builder}
use Rattle.query.specs.declared.kept.Kept.{Kept}
use Rattle.query.specs.declared.query.Query.{Query}
use Rattle.query.specs.Format.{bytes_of}
use Rattle.std.specs.List.{list_any}
use Rattle.query.specs.Lawful.{in_two, shares, lawful}
use Rattle.query.specs.Limits.{variables}
use Rattle.query.specs.Shape.{shape}
use Rattle.query.specs.Variables.{member, mentioned, Gathers}
use Rattle.query.specs.Grammar.{Used}
use Rattle.query.specs.Drafts.{Draft, Keeps, draft_of}

-- b knows the variables of each part of d in work and whether blocks shared one, and keeps d if anything
pub record Tracks (b : Builder) (d : Draft) : Type 0 where
  pub part : Gathers b.part d.triples
  pub required : Gathers b.required d.required
  pub once : (v : ℕ) → v < variables → member v b.in_blocks ≡ list_any (mentioned v) d.blocks
  pub twice : (v : ℕ) → v < variables → member v b.in_two_blocks ≡ in_two (mentioned v) d.blocks
  pub shared : b.shared ≡ list_any shares d.done
  pub kept : Keeps b.kept d

-- how many triples and nodes the builder has counted
abbrev pub used_of : Builder → Used
used_of b = record { triples = b.triples.total; nodes = b.nodes.total }

-- from b to b' the draft took the step, whichever it was, and nothing was counted
pub record Follows (step : Draft → Draft) (b b' : Builder) : Type 0 where
  pub tracks : (d : Draft) → Tracks b d → Tracks b' (step d)
  pub used : used_of b' ≡ used_of b

-- the parts that b keeps, if it keeps any, are a lawful query that takes size bytes
abbrev pub Finishes : Builder → ℕ → Type 0
Finishes b size = (k : Kept) → b.kept ≡ Some k
    → (lawful (draft_of k).done ≡ true) × (size ≡ length (bytes_of (draft_of k).done))

-- the query is the parts that b keeps; none where it keeps none
abbrev pub Finished : Builder → Option Query → Type 0
Finished b None = b.kept ≡ None
Finished b (Some q) = (k : Kept) × ((b.kept ≡ Some k) × (shape q ≡ (draft_of k).done))
