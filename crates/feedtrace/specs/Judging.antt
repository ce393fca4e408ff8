-- What is answered to the asking of a filter, and what it leaves. Assumes nothing.
--     part_truth entries r q p    the truth of the filter of the part p of the query q on the row r
--     Judged p r s x t            the session s was asked for that of its query, answers x, and t is s
use Rattle.std.specs.Prelude.{◌≡◌, ℕ, List, Some, None, Ok, Err, Option, Result}
use Rattle.catalogue.specs.Entries.{Entry}
use Rattle.query.specs.Parts.{Group}
use Rattle.filter.specs.Calls.{block_filter, group_filter, truth_on}
use Rattle.filter.specs.Rows.{Row}
use Rattle.filter.specs.declared.truth.Truth as truths
use Rattle.console.specs.Sessions.{current}
use Rattle.console.specs.declared.expected.Expected.TheVariants as shared
use Rattle.feedtrace.specs.declared.expected.Expected.{Expected}
use Rattle.feedtrace.specs.declared.expected.Expected.TheVariants as expected
use Rattle.feedtrace.specs.declared.outcome.Outcome.TheVariants as outcome
use Rattle.feedtrace.specs.declared.part.Part.{Part}
use Rattle.feedtrace.specs.declared.part.Part.TheVariants.{Alternative, Block}
use Rattle.feedtrace.specs.declared.session.Session.{Session}
use Rattle.feedtrace.specs.Books.{book_entries}
use Rattle.feedtrace.specs.Failures.{Carried, lacks}

-- the truth, if there is one; else x is expected
abbrev pub truth_or : Expected → Option truths.Truth → Result truths.Truth Expected
truth_or x None = Err x
truth_or x (Some truth) = Ok truth

-- the truth of the filter of the part; the part is expected where the query has none such
abbrev pub part_truth : (ℕ → Entry) → Row → List Group → Part → Result truths.Truth Expected
part_truth entries r q (Alternative a) =
    truth_or expected.Alternative (truth_on entries r (group_filter q a))
part_truth entries r q (Block a b) = truth_or expected.Block (truth_on entries r (block_filter q a b))

-- the truth, or what is lacking, as what the task comes to
abbrev pub judged : Result truths.Truth Expected → Carried
judged (Ok truth) = Ok (outcome.Truth truth)
judged (Err x) = lacks x

-- the truth of the filter of the part of the current query; or there is no such query
abbrev pub judged_of : (ℕ → Entry) → Row → Part → Option (List Group) → Carried
judged_of entries r p None = lacks (expected.Shared shared.Query)
judged_of entries r p (Some q) = judged (part_truth entries r q p)

-- the filter of the part of the current query was asked for, on the row under the current catalogue; all is
-- as it was
abbrev pub Judged : Part → Row → Session → Carried → Session → Type 0
Judged p r s x t = (x ≡ judged_of (book_entries s.book) r p (current s.queries)) × (t ≡ s)
