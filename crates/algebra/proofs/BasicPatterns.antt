-- A basic graph pattern in words. Assumes nothing.
use Rattle.std.proofs.Common.{◌∙◌}
use Rattle.std.proofs.lemmas.Bool.{cond-true}
use Rattle.algebra.specs.Algebra.{bgp}
use Rattle.algebra.specs.Answers.{times}
use Rattle.algebra.specs.Patterns.{blank, stored, completions}
use Rattle.algebra.specs.Theorems.{BasicPatterns}
use Rattle.algebra.proofs.Rows.{length-blank, member_from_times}
use Rattle.algebra.proofs.Patterns.{stored_from_all}
use Rattle.algebra.proofs.Completions.{completions-once}
use Rattle.algebra.proofs.Fitting.{completes_from_stored}
use Rattle.algebra.proofs.Cardinalities.{times-filter}

pub basic_patterns : BasicPatterns
basic_patterns m ts r =
    let rows = completions m.top ts blank in (
      (λ c held. times-filter (stored m ts) rows r
          ∙ cond-true (stored m ts r) (times r rows) 0 (stored_from_all m ts r held)
          ∙ completions-once m.top ts blank length-blank r c),
      (λ h. completes_from_stored m ts blank r length-blank (member_from_times r (bgp m ts) h)),
    )
