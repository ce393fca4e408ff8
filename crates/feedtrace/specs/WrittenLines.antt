-- Lines of a table that are written of an element, and that they are read as the element. Assumes nothing.
use Rattle.std.specs.Prelude.{◌≡◌, ℕ, ◌<◌, ◌≤◌, List, ◌++◌, ℤ, pos, negsuc, Some, Option, codes, decimal}
use Rattle.std.specs.Fmt.{signed_decimal}
use Rattle.triples.specs.declared.entry.DirectoryEntry.{DirectoryEntry}
use Rattle.triples.specs.declared.pair.Pair.{Pair}
use Rattle.triples.specs.declared.triple.Triple.{Triple}
use Rattle.triples.specs.Text.{triple_text}
use Rattle.catalogue.specs.declared.record.Record.{Record}
use Rattle.feedtrace.specs.Numerals.{most_above, most_below, most_number}

-- the numbers of t have 32 bits
abbrev pub RowFits : Triple → Type 0
RowFits t = (t.subject ≤ most_number) × (t.property ≤ most_number) × (t.object ≤ most_number)

-- if t fits and text is t as text, t is what is read of it
abbrev pub RowReadsBack : List ℕ → Option Triple → Type 0
RowReadsBack text r = (t : Triple) → RowFits t → text ≡ triple_text t → r ≡ Some t

-- what stands behind the name of an element: m and n as decimal numbers, a space before each
abbrev pub named_text : ℕ → ℕ → List ℕ
named_text m n = codes " " ++ (decimal m ++ (codes " " ++ decimal n))

-- the numbers of p have 32 bits
abbrev pub PairFits : Pair → Type 0
PairFits p = (p.subject ≤ most_number) × (p.object ≤ most_number)

-- if p fits and text is what stands behind the name pair for it, p is what is read of it
abbrev pub PairReadsBack : List ℕ → Option Pair → Type 0
PairReadsBack text r = (p : Pair) → PairFits p → text ≡ named_text p.subject p.object → r ≡ Some p

-- the numbers of e have 32 bits
abbrev pub EntryFits : DirectoryEntry → Type 0
EntryFits e = (e.property ≤ most_number) × (e.first ≤ most_number)

-- if e fits and text is what stands behind the name property for it, e is what is read of it
abbrev pub EntryReadsBack : List ℕ → Option DirectoryEntry → Type 0
EntryReadsBack text r = (e : DirectoryEntry) → EntryFits e → text ≡ named_text e.property e.first → r ≡ Some e

-- z is from minus 2,147,483,648 to 2,147,483,647, where negsuc n is minus (n + 1)
abbrev pub SignedFits : ℤ → Type 0
SignedFits (pos n) = n ≤ most_above
SignedFits (negsuc n) = n < most_below

-- if z fits and text is z with its sign, z is what is read of it
abbrev pub SignedReadsBack : List ℕ → Option ℤ → Type 0
SignedReadsBack text r = (z : ℤ) → SignedFits z → text ≡ signed_decimal z → r ≡ Some z

-- the kind of e has 32 bits, and its value has 32 bits with its sign
abbrev pub RecordFits : Record → Type 0
RecordFits e = (e.kind ≤ most_number) × SignedFits e.value

-- kind and value as decimal numbers, one space between
abbrev pub record_text : Record → List ℕ
record_text e = decimal e.kind ++ (codes " " ++ signed_decimal e.value)

-- if e fits and text is e as text, e is what is read of it
abbrev pub RecordReadsBack : List ℕ → Option Record → Type 0
RecordReadsBack text r = (e : Record) → RecordFits e → text ≡ record_text e → r ≡ Some e
