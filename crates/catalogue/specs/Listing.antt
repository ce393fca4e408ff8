-- What a list of records means, and why it is refused. Assumes nothing.
use Rattle.std.specs.Prelude.{ℕ, ◌-◌, cond, ◌&&◌, List, length, Some, Option, nat_le, nat_lt, slice_index_or}
use Rattle.std.specs.Option.{option_map}
use Rattle.refusal.specs.declared.refusal.Refusal.{Refusal}
use Rattle.refusal.specs.declared.refusal.Refusal.TheVariants.{OverLimit, RecordInvalid}
use Rattle.refusal.specs.declared.rejection.Rejection.{Rejection}
use Rattle.catalogue.specs.declared.record.Record.{Record}
use Rattle.catalogue.specs.Entries.{Entry, unlisted}
use Rattle.catalogue.specs.Records.{first_invalid, most_records, no_record, spelled}

-- the entry that the records give the number n: the first record is for number 1,
-- and 0 and the numbers past the last record are unlisted
abbrev pub listed_entry : List Record → ℕ → Entry
listed_entry records n =
    cond (nat_le 1 n && nat_le n (length records))
    (spelled (slice_index_or records (n - 1) no_record)) unlisted

-- a refusal at a place
abbrev at_place : Refusal → ℕ → Rejection
at_place refusal place = record { refusal = refusal; place = place }

-- why the records are refused; none where they are taken
abbrev pub listed_outcome : List Record → Option Rejection
listed_outcome records =
    cond (nat_lt most_records (length records))
    (Some (at_place OverLimit 0))
    (option_map (at_place RecordInvalid) (first_invalid records))
