-- What is written of a number with its sign is read as the number, since the text is read as the digits say.
use Rattle.std.proofs.Common.{◌≡◌, ℕ, ◌*◌, ◌≤◌, ◌*ℤ◌, drop, ℤ, pos, negsuc, neg_ℤ, Some, Ok, true, FitsSigned}
use Rattle.std.proofs.Common.{to_z, of_z, w32, w64, refl, sym, ap, subst, ◌∙◌, rules, arith}
use Rattle.std.proofs.Math.IntN.{negsuc-*ℤ-pos}
use Rattle.std.proofs.lemmas.Grind.{common_steps}
use Rattle.std.proofs.lemmas.Result.{Ok-from_Ok_iff}
use Rattle.std.specs.Result.{result_ok}
use Rattle.console.specs.Numerals.{number_from}
use Rattle.feedtrace.specs.Numerals.{most_below, negative, signed_from}
use Rattle.feedtrace.proofs.Numerals.{SignedReadsBack-from_said}
use Rattle.feedtrace.proofs.number.signed_of.Goals as goal
use Rattle.feedtrace.proofs.number.signed_of.Goals.{in-45, in_default}

-- minus 1 times a number up to most_below is minus the number, with no bit lost
product-minus_one : (s z : ℤ) (n : ℕ) → s ≡ negsuc 0 → z ≡ pos n → n ≤ most_below
    → to_z w64 (of_z w64 (to_z w64 (of_z w64 s) *ℤ to_z w64 (of_z w64 z))) ≡ neg_ℤ (pos n)
product-minus_one s z n is_s is_z small =
    let one : to_z w64 (of_z w64 (negsuc 0)) ≡ negsuc 0 = search rules in
    let number : to_z w64 (of_z w64 (pos n)) ≡ pos n = search rules in
    let same : 1 * n ≡ n = omega arith in
    let product = negsuc-*ℤ-pos 0 n ∙ ap (λ k. neg_ℤ (pos k)) same in
    let whole : to_z w64 (of_z w64 (neg_ℤ (pos n))) ≡ neg_ℤ (pos n) = search rules in
    rw (is_s, is_z, one, number, product, whole) refl

-- and has 32 bits
FitsSigned-neg_ℤ : (n : ℕ) → n ≤ most_below → FitsSigned w32 (neg_ℤ (pos n))
FitsSigned-neg_ℤ n small = search rules

pub returns-in_err-number-clause-law : goal.returns-in_err-number-clause-law
returns-in_err-number-clause-law c =
    SignedReadsBack-from_said c.args.text.now _
    (elim c.if-text-lt1.branch [
      | in-45 w ↦ grind (arith, common_steps)
      | in_default w ↦ grind (arith, common_steps)
    ])

pub returns-clause-law : goal.returns-clause-law
returns-clause-law c =
    let text = c.args.text.now in
    let n = c.in_ok-number.number in
    SignedReadsBack-from_said text _
    (elim c.if-text-lt1.branch [
      | in-45 w ↦
          let bound : n ≤ c.unsigned_abs.result = ((c.number_of.ensures.law n).0 c.in_ok-number.was).0 in
          let small : n ≤ most_below = omega (arith, c.unsigned_abs.ensures.value) in
          let sign = ap (λ s. s.0) w.sign-is in
          let product = product-minus_one c.if-text-lt1.sign.0 c.from.result n sign c.from.ensures small in
          let fits = subst (FitsSigned w32) (sym product) (FitsSigned-neg_ℤ n small) in
          let taken = Ok-from_Ok_iff c.try_from.result _ _ c.try_from.ensures fits ∙ ap Ok product in
          let minus : negative text ≡ true = grind (arith, common_steps) in
          let digits : number_from most_below (drop 1 text) ≡ Some n = grind (arith, common_steps) in
          let said : signed_from text ≡ Some (neg_ℤ (pos n)) = rw (minus, digits) refl in
          c.ok.ensures.value ∙ ap result_ok taken ∙ sym said
      | in_default w ↦ grind (arith, common_steps)
    ])
