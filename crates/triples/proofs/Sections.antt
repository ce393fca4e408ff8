-- Laws of the pairs of a directory's entries. Assumes nothing.
use Rattle.std.proofs.Common.{◌≡◌, ℕ, ◌+◌, ◌<◌, true, List, length, None, subst₂, arith}
use Rattle.std.proofs.lemmas.List.{get_or_default}
use Rattle.triples.specs.declared.entry.DirectoryEntry.{DirectoryEntry}
use Rattle.triples.specs.declared.pair.Pair.{Pair}
use Rattle.triples.specs.Order.{before}
use Rattle.triples.specs.Tables.{Ordered, triple_of}
use Rattle.triples.specs.Directory.{property_of, section, no_pair}
use Rattle.triples.specs.Sections.{SectionsOrdered, TableLawful, TableOutcome, accepted}

module _ (dir : List DirectoryEntry) (pairs : List Pair) where
  pub section_ordered : SectionsOrdered dir pairs → (i : ℕ) → i < length dir
      → Ordered (triple_of (property_of dir i)) (section dir pairs i)
  section_ordered o i h k d l =
      let xs = section dir pairs i in
      subst₂ (λ x y. before (triple_of (property_of dir i) x) (triple_of (property_of dir i) y) ≡ true)
      (get_or_default xs k no_pair d (omega (arith, l))) (get_or_default xs (k + 1) no_pair d l) (o i k
      (h, l))

  pub sections_ordered :
      ((i : ℕ) → i < length dir → Ordered (triple_of (property_of dir i)) (section dir pairs i))
      → SectionsOrdered dir pairs
  sections_ordered each i k both = each i both.0 k no_pair both.1

pub table_accepted : (top : ℕ) (dir : List DirectoryEntry) (pairs : List Pair)
    → TableOutcome top dir pairs None
    → TableLawful top dir pairs
table_accepted top dir pairs (accepted l) = l
