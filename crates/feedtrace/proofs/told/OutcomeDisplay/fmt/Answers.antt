-- A list is written by the texts of what it holds.
use Rattle.std.proofs.Common.{ap, codes, refl, sym, ◌∙◌}
use Rattle.std.proofs.Output.{has_written_of_eq}
use Rattle.std.specs.Fmt.{decimal}
use Rattle.triples.specs.Text.{triple_text}
use Rattle.feedtrace.specs.Outcomes.{listing_text, outcome_text}
use Rattle.feedtrace.proofs.told.OutcomeDisplay.fmt.Goals as goal

pub returns-in-Triples-clause-writes : goal.returns-in-Triples-clause-writes
returns-in-Triples-clause-writes g c plain ok =
    has_written_of_eq g.W.Write.write_str_gives _ _ _ _
    (ap (λ ts. listing_text triple_text ts (codes "triples")) c.as_slice.ensures.value
    ∙ sym (ap outcome_text c.in-Triples.is))
    (c.put_lines.ensures triple_text (λ _. refl) plain ok)

pub returns-in-Terms-clause-writes : goal.returns-in-Terms-clause-writes
returns-in-Terms-clause-writes g c plain ok =
    has_written_of_eq g.W.Write.write_str_gives _ _ _ _
    (ap (λ ns. listing_text decimal ns (codes "terms reached")) c.as_slice-in-Terms.ensures.value
    ∙ sym (ap outcome_text c.in-Terms.is))
    (c.put_lines-in-Terms.ensures decimal (λ _. refl) plain ok)
