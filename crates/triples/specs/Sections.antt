-- What loading a property store is about. Assumes nothing.
use Rattle.std.specs.Prelude.{◌≡◌, ℕ, ◌+◌, ◌<◌, ◌≤◌, true, List, length, Some, None, Option, slice_index_or}
use Rattle.refusal.specs.declared.refusal.Refusal.TheVariants.{OverLimit, DirectoryBroken, OutsideTerms}
use Rattle.refusal.specs.declared.refusal.Refusal.TheVariants.{NotAscending}
use Rattle.refusal.specs.declared.rejection.Rejection.{Rejection}
use Rattle.triples.specs.declared.entry.DirectoryEntry.{DirectoryEntry}
use Rattle.triples.specs.declared.pair.Pair.{Pair}
use Rattle.triples.specs.Order.{before}
use Rattle.triples.specs.Meaning.{largest_top}
use Rattle.triples.specs.Tables.{NotAbove, AllGood, FirstBad, pair_good, triple_of}
use Rattle.triples.specs.Directory.{EntriesGood, FirstBroken, property_of, first_of, section, no_pair}

-- the most entries of a directory
abbrev pub most_entries : ℕ
most_entries = 4096

-- the most pairs of a property store
abbrev pub most_pairs : ℕ
most_pairs = 1000000

-- the top, the number of entries and the number of pairs are within their limits
pub record TableLimited (top : ℕ) (dir : List DirectoryEntry) (pairs : List Pair) : Type 0 where
  pub small : top ≤ largest_top
  pub few_entries : length dir ≤ most_entries
  pub few_pairs : length pairs ≤ most_pairs

-- every entry is in order, and without entries there are no pairs
pub record DirectoryWhole (top : ℕ) (dir : List DirectoryEntry) (pairs : List Pair) : Type 0 where
  pub good : EntriesGood top dir (length pairs)
  pub owned : length dir ≡ 0 → length pairs ≡ 0

-- the pairs of each entry ascend strictly
abbrev pub SectionsOrdered : List DirectoryEntry → List Pair → Type 0
SectionsOrdered dir pairs =
    (i k : ℕ) → (i < length dir) × (k + 1 < length (section dir pairs i))
    → before (triple_of (property_of dir i) (slice_index_or (section dir pairs i) k no_pair))
    (triple_of (property_of dir i) (slice_index_or (section dir pairs i) (k + 1) no_pair)) ≡ true

-- k is the place, among all pairs, of a pair that is not above the one before it in its entry
pub record Fallen (dir : List DirectoryEntry) (pairs : List Pair) (k : ℕ) : Type 0 where
  pub entry : ℕ
  pub place : ℕ
  pub inside : entry < length dir
  pub falls : NotAbove (triple_of (property_of dir entry)) (section dir pairs entry) place
  pub is : k ≡ first_of dir entry + place

-- a lawful table: within its limits, with a whole directory, each number a term, and each entry's pairs
-- ascending
pub record TableLawful (top : ℕ) (dir : List DirectoryEntry) (pairs : List Pair) : Type 0 where
  pub limited : TableLimited top dir pairs
  pub whole : DirectoryWhole top dir pairs
  pub terms : AllGood (pair_good top) pairs
  pub ordered : SectionsOrdered dir pairs

-- what becomes of the table: a store if it is lawful, else a refusal. Limits come first, then the directory,
-- then numbers, then the order, each only if the whole table has passed the ones before it; only the place in
-- falls is open
pub data TableOutcome (top : ℕ) (dir : List DirectoryEntry) (pairs : List Pair) : Option Rejection
    → Type 0 where
  accepted : TableLawful top dir pairs → TableOutcome top dir pairs None
  over : (TableLimited top dir pairs → ⊥)
      → TableOutcome top dir pairs (Some (record { refusal = OverLimit; place = 0 }))
  broken : (i : ℕ) → TableLimited top dir pairs → FirstBroken top dir (length pairs) i
      → TableOutcome top dir pairs (Some (record { refusal = DirectoryBroken; place = i }))
  unowned : TableLimited top dir pairs → length dir ≡ 0 → 0 < length pairs
      → TableOutcome top dir pairs (Some (record { refusal = DirectoryBroken; place = 0 }))
  outside : (k : ℕ) → TableLimited top dir pairs → DirectoryWhole top dir pairs
      → FirstBad (pair_good top) pairs k
      → TableOutcome top dir pairs (Some (record { refusal = OutsideTerms; place = k }))
  falls : (i k : ℕ) → TableLimited top dir pairs → DirectoryWhole top dir pairs
      → AllGood (pair_good top) pairs
      → i < length dir → NotAbove (triple_of (property_of dir i)) (section dir pairs i) k
      → TableOutcome top dir pairs (Some (record { refusal = NotAscending; place = first_of dir i + k }))
