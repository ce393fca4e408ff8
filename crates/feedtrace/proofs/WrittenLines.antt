-- Laws of written lines: what is written of an element is read as the element. Assumes nothing.
use Rattle.std.proofs.Common.{◌≡◌, ℕ, ◌++◌, codes, decimal, List, Option, refl, ap, ◌∙◌}
use Rattle.triples.specs.declared.entry.DirectoryEntry.{DirectoryEntry}
use Rattle.triples.specs.declared.pair.Pair.{Pair}
use Rattle.triples.specs.declared.triple.Triple.{Triple}
use Rattle.catalogue.specs.declared.record.Record.{Record}
use Rattle.std.specs.Fmt.{signed_decimal}
use Rattle.feedtrace.proofs.Fields.{first_number-decimal, first_number-last, first_number-space}
use Rattle.feedtrace.proofs.Fields.{first_signed-last}
use Rattle.feedtrace.specs.TableLines.{entry_line, pair_line, record_line, row_line}
use Rattle.feedtrace.specs.WrittenLines.{EntryReadsBack, PairReadsBack, RecordReadsBack, RowReadsBack}

-- the text of a triple is read as the triple
pub RowReadsBack-from_said : (text : List ℕ) (r : Option Triple) → r ≡ row_line text → RowReadsBack text r
RowReadsBack-from_said text r said t small written =
    let object = codes " " ++ decimal t.object in
    let s = first_number-decimal t.subject (codes " " ++ (decimal t.property ++ object)) small.0 refl in
    let p = first_number-space t.property object small.1 refl in
    let o = first_number-last t.object small.2 in
    said ∙ ap row_line written ∙ rw (s, p, o) refl

-- the numbers of a pair are read as the pair
pub PairReadsBack-from_said : (text : List ℕ) (r : Option Pair) → r ≡ pair_line text → PairReadsBack text r
PairReadsBack-from_said text r said p small written =
    let s = first_number-space p.subject (codes " " ++ decimal p.object) small.0 refl in
    let o = first_number-last p.object small.1 in
    said ∙ ap pair_line written ∙ rw (s, o) refl

-- the numbers of an entry are read as the entry
pub EntryReadsBack-from_said : (text : List ℕ) (r : Option DirectoryEntry) → r ≡ entry_line text
    → EntryReadsBack text r
EntryReadsBack-from_said text r said e small written =
    let p = first_number-space e.property (codes " " ++ decimal e.first) small.0 refl in
    let f = first_number-last e.first small.1 in
    said ∙ ap entry_line written ∙ rw (p, f) refl

-- the text of a record is read as the record
pub RecordReadsBack-from_said : (text : List ℕ) (r : Option Record) → r ≡ record_line text
    → RecordReadsBack text r
RecordReadsBack-from_said text r said e small written =
    let k = first_number-decimal e.kind (codes " " ++ signed_decimal e.value) small.0 refl in
    let v = first_signed-last e.value small.1 in
    said ∙ ap record_line written ∙ rw (k, v) refl
