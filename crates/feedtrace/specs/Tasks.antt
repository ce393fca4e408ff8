-- What tasks answer, and what they leave. Assumes nothing.
--     Asked P s r t   the store of s was asked, P holds of its meaning and the answer r, and t is s
use Rattle.std.specs.Prelude.{◌≡◌, ℕ, ◌⊎◌, ℤ, Ok, vec_items, Option, Vec, MatchOption}
use Rattle.std.specs.declared.alloc.Global.{Global}
use Rattle.triples.specs.declared.position.Position.{Position}
use Rattle.triples.specs.declared.selector.Selector.{Selector}
use Rattle.triples.specs.declared.triple.Triple as triples
use Rattle.triples.specs.Meaning.{Meaning}
use Rattle.triples.specs.Seeks.{Sought, Leapt}
use Rattle.trace.specs.Scans.{Scanned}
use Rattle.trace.specs.Steps.{Traced}
use Rattle.catalogue.specs.Entries.{told}
use Rattle.catalogue.specs.declared.kind.Kind.{Kind}
use Rattle.feedtrace.specs.declared.expected.Expected.TheVariants as expected
use Rattle.feedtrace.specs.declared.outcome.Outcome.{Outcome}
use Rattle.feedtrace.specs.Failures.{Carried, lacks, memory}
use Rattle.feedtrace.specs.declared.outcome.Outcome.TheVariants as outcome
use Rattle.feedtrace.specs.declared.session.Session.{Session}
use Rattle.feedtrace.specs.Books.{book_entries}
use Rattle.feedtrace.specs.Layerings.{layered_meaning}

-- the store of s was asked, and P holds of its meaning and the answer; or there is no store. All is as it
-- was: the table, what lies over it, and what is withdrawn
abbrev pub Asked : (Meaning → Carried → Type 0) → Session → Carried → Session → Type 0
Asked P s r t =
    (t ≡ s) × MatchOption s.store (r ≡ lacks expected.Store) (λ l. P (layered_meaning l) r)

-- the least triple that matches and is not below the start
abbrev pub SeekAnswer : Selector → triples.Triple → Meaning → Carried → Type 0
SeekAnswer selector start m r =
    (o : Option triples.Triple) × ((r ≡ Ok (outcome.Found o)) × Sought m.has selector start o)

-- the smallest number from the bound on at the position of a triple that matches
abbrev pub LeapAnswer : Position → Selector → ℕ → Meaning → Carried → Type 0
LeapAnswer position selector bound m r =
    (o : Option ℕ) × ((r ≡ Ok (outcome.Number o)) × Leapt m.has position selector bound o)

-- exactly the triples that match, ascending; or memory is wanting
abbrev pub ScanAnswer : Selector → Meaning → Carried → Type 0
ScanAnswer selector m r =
    ((v : Vec triples.Triple Global)
    × ((r ≡ Ok (outcome.Triples v)) × Scanned m.has selector (vec_items v)))
    ⊎ (r ≡ lacks memory)

-- exactly the terms that the term reaches, nearest first; or memory is wanting
abbrev pub TraceAnswer : ℕ → Meaning → Carried → Type 0
TraceAnswer term m r =
    ((v : Vec ℕ Global) × ((r ≡ Ok (outcome.Terms v)) × Traced m.has term (vec_items v)))
    ⊎ (r ≡ lacks memory)

-- the entry of the number in the catalogue of s; all is as it was
abbrev pub Looked : ℕ → Session → Outcome → Session → Type 0
Looked number s r t =
    (t ≡ s) × ((k : Kind)
    × ((v : ℤ) ×
    ((r ≡ outcome.Entry k v) × ((k, v) ≡ told (book_entries s.book number)))))
