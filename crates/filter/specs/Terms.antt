-- Terms as they are held while a filter is evaluated. Assumes nothing.
use Rattle.catalogue.specs.Entries.{Entry}
use Rattle.filter.specs.Comparing.{Known}
use Rattle.filter.specs.declared.term.Term.{Term}

-- what is held of the term's entry
abbrev pub entry_of : Term → Entry
entry_of t = record { kind = t.kind; value = t.value }

-- the term with its entry, as it is held
abbrev pub known_of : Term → Known
known_of t = record { number = t.number; entry = entry_of t }
