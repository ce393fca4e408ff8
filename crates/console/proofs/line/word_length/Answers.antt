-- The first space, or the end, is where the word ends.
use Rattle.std.proofs.Common.{◌≡◌, ◌≢◌, sym, refl, ◌∙◌, arith, rules}
use Rattle.std.proofs.lemmas.Bool.Decides.{nat_tests}
use Rattle.std.proofs.lemmas.Iterator.{IsFirst-from_position, YieldsList-from_slice, index_from_first}
use borrow.Author.Tests.{tests}
use Rattle.console.specs.Words.{word_length}
use Rattle.console.proofs.line.word_length.Goals as goal

pub returns : goal.returns
returns c =
    let first = IsFirst-from_position _ _ c.position.result (λ x. x ≡ 32) (λ x. x ≢ 32)
    c.position.ensures.ran (YieldsList-from_slice c.args.text.now cc) (λ x q k. search (rules, tests))
    (λ x q k. search (rules, tests))
    in c.unwrap_or.ensures ∙ sym (index_from_first word_length (λ x. x ≡ 32) (λ x. x ≢ 32) refl
    (λ x xs h. grind (arith, nat_tests)) (λ x xs h. grind (arith, nat_tests)) c.args.text.now
    c.position.result first)
