-- What a catalogue of either kind says. Assumes nothing.
use Rattle.std.specs.Prelude.{ℕ, vec_items}
use Rattle.catalogue.specs.declared.inline.Inline.{Inline}
use Rattle.catalogue.specs.declared.listed.Listed.{Listed}
use Rattle.catalogue.specs.Entries.{Entry}
use Rattle.catalogue.specs.Inlining.{inlined}
use Rattle.catalogue.specs.Listing.{listed_entry}
use Rattle.feedtrace.specs.declared.either.Either.{Either}
use Rattle.feedtrace.specs.Eithers.{either_of}

-- the inline catalogue or a listed one
abbrev pub Book : Type 0
Book = Either Inline Listed

-- the entry of each number
abbrev pub book_entries : Book → ℕ → Entry
book_entries = either_of (λ _. inlined) (λ c. listed_entry (vec_items c.records))
