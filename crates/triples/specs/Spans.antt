-- Which entries of a directory a selector can match. Assumes nothing.
use Rattle.std.specs.Prelude.{◌≡◌, ℕ, ◌<◌, ◌≤◌, true, false, List, length}
use Rattle.triples.specs.declared.entry.DirectoryEntry.{DirectoryEntry}
use Rattle.std.specs.declared.ops.Range.{Range}
use Rattle.triples.specs.Selectors.{accepts}
use Rattle.triples.specs.Directory.{property_of}

-- the span has the entries whose property the selector's entry accepts, and no others
pub record Spanned (dir : List DirectoryEntry) (wanted : ℕ) (span : Range ℕ) : Type 0 where
  pub upward : span.start ≤ span.end
  pub inside : span.end ≤ length dir
  pub before : (i : ℕ) → i < span.start → accepts wanted (property_of dir i) ≡ false
  pub within : (i : ℕ) → span.start ≤ i → i < span.end → accepts wanted (property_of dir i) ≡ true
  pub behind : (i : ℕ) → span.end ≤ i → i < length dir → accepts wanted (property_of dir i) ≡ false
