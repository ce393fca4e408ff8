use Rattle.std.proofs.Common.{rules, tests, ◌∙◌}
use Rattle.std.proofs.lemmas.Iterator.{YieldsList-from_slice}
use Rattle.std.proofs.lemmas.Iterator.Consumers.{fold_from_yields_List}
use Rattle.std.proofs.lemmas.Iterator.Consumers.{YieldsList-from_copied, YieldsList-from_filter}
use Rattle.store_cases.specs.Plain.{with_one_more}
use Rattle.store_cases.proofs.Folds.{fold-with_one_more-none}
use Rattle.store_cases.proofs.plain.least.Goals as goal

pub returns : goal.returns
returns c =
    fold_from_yields_List _ with_one_more _ _ c.fold.ensures.ran
    (YieldsList-from_filter _ _
    (YieldsList-from_copied (YieldsList-from_slice c.args.list.now cc))
    c.filter.ensures.closure
    (λ x r q k. search (rules, tests)))
    (λ a x b q k. search (rules, tests))
    ∙ fold-with_one_more-none _
