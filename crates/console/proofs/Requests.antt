-- Laws of requests. Assumes nothing.
use Rattle.std.proofs.Common.{◌≡◌, ℕ, false, List, Ok, Err, Some, None, Option, Result, cond, refl}
use Rattle.std.proofs.Common.{inl, inr, ap, sym, ◌∙◌}
use Rattle.std.proofs.lemmas.Bool.{cond-false}
use Rattle.std.specs.Result.{IsErrAnd}
use Rattle.hex_text.specs.Calls.{Parsed}
use Rattle.hex_text.specs.declared.parse.ParseError.{ParseError}
use Rattle.hex_text.specs.declared.parse.ParseError.TheVariants.{NotHex, Memory}
use Rattle.console.specs.declared.command.Command.{Command}
use Rattle.console.specs.declared.expected.Expected.{Expected}
use Rattle.console.specs.Failures.{expected_for}
use Rattle.console.specs.Requests.{asked, asked_by, asked_plainly, nothing, query_of, Request, Fails, Meets}
use Rattle.console.specs.Words.{absent, after_word, trimmed, word}

-- a text that is not read asks no query, or one for which memory is wanting
pub Fails-from_parsed : (m : Option (List ℕ)) (e : ParseError) → Parsed m (Err e)
    → Fails (query_of m) (expected_for e)
Fails-from_parsed m NotHex none = inl (ap query_of none)
Fails-from_parsed None Memory some = cc
Fails-from_parsed (Some bs) Memory some = inr (refl, (bs, refl))

-- what a line asks that is no remark, by its first word and the rest
pub asked-from_parts : (line t w rest : List ℕ) → t ≡ trimmed line → w ≡ word t → rest ≡ after_word t
    → absent w ≡ false → asked line ≡ asked_by w rest
asked-from_parts line t w rest trims first left is_word =
    let asks : List ℕ → List ℕ → Request = λ x y. cond (absent x) nothing (asked_by x y) in
    ap asked_plainly (sym trims) ∙ ap (λ x. asks x (after_word t)) (sym first) ∙ ap (asks w) (sym left)
    ∙ cond-false (absent w) nothing (asked_by w rest) is_word

-- a result that is an error, where m fails by it
pub Meets-from_err : (m : Request) (e : Expected) (r : Result (Option Command) Expected)
    → IsErrAnd r (λ x. x ≡ e) → Fails m e → Meets m r
Meets-from_err m e (Ok c) is fails = absurd is
Meets-from_err m e (Err x) is fails = rw is fails
