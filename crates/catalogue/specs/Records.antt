-- Which records spell an entry, and the first of a list that does not. Assumes nothing.
use Rattle.std.specs.Prelude.{ℕ, Bool, not, List, ℤ, pos, is_some, Some, None, Option, position}
use Rattle.std.specs.List.{list_all}
use Rattle.std.specs.Option.{unwrap_or}
use Rattle.std.specs.Bool.{then_some}
use Rattle.catalogue.specs.declared.kind.Kind.{Kind}
use Rattle.catalogue.specs.declared.record.Record.{Record}
use Rattle.catalogue.specs.Entries.{Entry, is_proper, unlisted}
use Rattle.catalogue.specs.Kinds.{kind_from}

-- the most records that a list may have
abbrev pub most_records : ℕ
most_records = 1000000

-- e where it is proper, else none
abbrev if_proper : Entry → Option Entry
if_proper e = then_some (is_proper e) e

-- the proper entry of that kind and value; none where there is no kind
abbrev pub entry_from : Option Kind → ℤ → Option Entry
entry_from None _ = None
entry_from (Some k) value = if_proper (record { kind = k; value = value })

-- the entry that the record spells; none where no kind has its number, or the entry is not proper
abbrev pub entry_of : Record → Option Entry
entry_of r = entry_from (kind_from r.kind) r.value

-- the entry that the record spells; unlisted where it spells none
abbrev pub spelled : Record → Entry
spelled r = unwrap_or (entry_of r) unlisted

-- what is read past the end of a list
abbrev pub no_record : Record
no_record = record { kind = 0; value = pos 0 }

-- the record spells an entry
abbrev pub valid : Record → Bool
valid r = is_some (entry_of r)

-- the place of the first record that is not valid; none where all are
abbrev pub first_invalid : List Record → Option ℕ
first_invalid records = position (λ r. not (valid r)) records

-- every record is valid
abbrev pub all_valid : List Record → Bool
all_valid records = list_all valid records
