-- Each digit goes behind those before it, and a number with no room is past the greatest.
use Rattle.std.proofs.Common.{◌≡◌, ◌∙◌, ap, arith, rules, []}
use borrow.Author.Tests.{tests}
use Rattle.std.proofs.lemmas.List.{nil_from_length}
use Rattle.console.proofs.Decimals.{ReadsNumerals-number_from}
use Rattle.console.proofs.Folds.{folded, folded-from_turns}
use Rattle.console.proofs.Numerals.{limited-from_kept, limited_folded, number_from_digits}
use Rattle.console.specs.Numerals.{followed, limited}
use Rattle.console.proofs.number.number_of.Goals as goal

pub returns-then-is_empty-clause-law : goal.returns-then-is_empty-clause-law
returns-then-is_empty-clause-law c =
    let none = nil_from_length c.args.digits.now (search (rules, tests)) in
    rw none (ReadsNumerals-number_from c.args.most [] (omega arith))

pub returns-clause-said : goal.returns-clause-said
returns-clause-said c =
    let ran = c.try_fold.ensures.ran in
    let whole : c.try_fold.result ≡ folded followed 0 c.iter.result.rest.now =
    folded-from_turns _ followed (λ p x q turn. search (rules, tests)) c.iter.result ran.4.0
    c.try_fold.new.self ran.0 ran.1 (tt, 0) (ran.2, ran.3) c.try_fold.result _
    (λ x b. search (rules, tests)) ran.4.1 ran.4.2 ran.5 ran.6 in
    limited-from_kept c.args.most c.try_fold.result c.filter.result _ (λ n b. search (rules, tests))
    c.filter.ensures
    ∙ ap (limited c.args.most) (whole ∙ ap (folded followed 0) c.iter.ensures.rest)
    ∙ limited_folded c.args.most (omega arith) c.args.digits.now 0
    ∙ number_from_digits c.args.most c.args.digits.now (search (rules, tests))

pub returns-clause-law : goal.returns-clause-law
returns-clause-law c =
    rw (returns-clause-said c) (ReadsNumerals-number_from c.args.most c.args.digits.now (omega arith))
