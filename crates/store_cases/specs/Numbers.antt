-- What plain numbers stand for. Assumes nothing.
use Rattle.std.specs.Prelude.{ℕ}
use Rattle.triples.specs.declared.entry.DirectoryEntry.{DirectoryEntry}
use Rattle.triples.specs.declared.pair.Pair.{Pair}
use Rattle.triples.specs.declared.selector.Selector.{Selector}
use Rattle.triples.specs.declared.triple.Triple.{Triple}

-- the triple of a subject, a property and an object
abbrev pub triple_from : ℕ × ℕ × ℕ → Triple
triple_from n = record { subject = n.0; property = n.1; object = n.2 }

-- the selector of the entries for a subject, a property and an object
abbrev pub selector_from : ℕ × ℕ × ℕ → Selector
selector_from n = record { subject = n.0; property = n.1; object = n.2 }

-- the entry of a property and a first place
abbrev pub entry_from : ℕ × ℕ → DirectoryEntry
entry_from n = record { property = n.0; first = n.1 }

-- the pair of a subject and an object
abbrev pub pair_from : ℕ × ℕ → Pair
pair_from n = record { subject = n.0; object = n.1 }
