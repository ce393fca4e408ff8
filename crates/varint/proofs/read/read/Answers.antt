-- Each answer is what the bytes from the place on say.
use Rattle.std.proofs.Common.{◌≡◌, ℕ, ◌+◌, ◌<◌, List, [], length, drop, Some, None, Option, Bor, unwrap_or}
use Rattle.std.proofs.Common.{Ok, Err, Result, refl, sym, ap, subst, rules}
use Rattle.std.proofs.Common.{◌∙◌, ⊎_elim, length-drop, arith}
use Rattle.std.proofs.lemmas.Bool.{cases_lt}
use Rattle.std.proofs.lemmas.Option.{MatchOption-at_none, MatchOption-at_some}
use Rattle.std.proofs.lemmas.Result.{OkIff-at_err, err_from_is_err_and}
use Rattle.std.specs.Option.{ok_or}
use Rattle.std.specs.Result.{MatchResult, IsErrAnd, OkIff}
use Rattle.std.proofs.lemmas.List.{drop_all, get_or-drop, take_all}
use Rattle.std.specs.Slice.{IsGetRangeResult}
use Rattle.varint.specs.Calls.{answer}
use Rattle.varint.specs.Decode.{Decoded, decode, decoded}
use Rattle.varint.specs.Encode.{largest}
use Rattle.varint.proofs.Laws.{decode_none}
use Rattle.varint.proofs.Reading.{large_first, long_first, padded_first, shortest_first}
use Rattle.varint.proofs.read.read.Goals as goal
use Rattle.varint.proofs.read.read.Goals.{then-number-gt-MOST_BYTES-via-then-number-gt-MOST_BYTES}
use Rattle.varint.proofs.read.read.Goals.{then-number-gt-MOST_BYTES-via-else-number-gt-MOST_BYTES+then-is_padded}

-- what is got from a place on, or else nothing, is what stands there
rest_is : (bytes : List ℕ) (at : ℕ) (got : Option (Bor (List ℕ))) (nothing rest : Bor (List ℕ))
    → IsGetRangeResult bytes at (length bytes) got → nothing.now ≡ [] → rest ≡ unwrap_or got nothing
    → rest.now ≡ drop at bytes
rest_is bytes at None nothing rest h none e =
    let past = ⊎_elim (λ before. drop_all at bytes (omega arith)) (λ never. absurd (omega arith)) h.0
    in ap (λ (b : Bor (List ℕ)). b.now) e ∙ none ∙ sym past
rest_is bytes at (Some part) nothing rest h none e =
    ap (λ (b : Bor (List ℕ)). b.now) e ∙ h.0.2
    ∙ take_all _ (drop at bytes) (omega (arith, length-drop at bytes))

answer_from : (bytes rest : List ℕ) (d : Decoded) → rest ≡ bytes → decode rest ≡ d
    → answer d ≡ answer (decode bytes)
answer_from bytes rest d e h = ap answer (sym h ∙ ap decode e)

-- an error that was made of no value is the one that is named
named_error : {A E : Type 0} (o : Option A) (e f : E) → o ≡ None → Err f ≡ ok_or o e → f ≡ e
named_error o e f none is = search rules

pub returns-in_err-number : goal.returns-in_err-number
returns-in_err-number c =
    let rest = rest_is c.args.bytes.now c.args.at _ _ c.unwrap_or-rest.result c.get.ensures.lookup refl
    c.unwrap_or-rest.ensures
    in let why = err_from_is_err_and c.from_residual.result c.from_residual.ensures.1
    in let none = c.in_err-number.ensures.ok_part
    in let error = named_error _ _ _ none c.in_err-number.ensures.value
    in why.1 ∙ ap Err (why.2 ∙ error)
    ∙ answer_from _ _ _ rest (decode_none _ (MatchOption-at_none _ _ none c.first_number.ensures))

pub returns-then-number-gt-MOST_BYTES : goal.returns-then-number-gt-MOST_BYTES
returns-then-number-gt-MOST_BYTES c =
    let rest = rest_is c.args.bytes.now c.args.at _ _ c.unwrap_or-rest.result c.get.ensures.lookup refl
    c.unwrap_or-rest.ensures
    in let first = MatchOption-at_some _ _ _ c.in_ok-number.ensures.ok_part c.first_number.ensures
    in answer_from _ _ _ rest
    (elim c.then-number-gt-MOST_BYTES.branch [
      | then-number-gt-MOST_BYTES-via-then-number-gt-MOST_BYTES w ↦ long_first first (omega arith)
      | then-number-gt-MOST_BYTES-via-else-number-gt-MOST_BYTES+then-is_padded w ↦
          padded_first first (sym w.if-is_padded.ensures)
    ])

-- what became an error by name was an error
refused : {A B E : Type 0} (r : Result A B) (f : E) (Q : B → Type 0)
    → MatchResult r (λ x. Err f ≡ Ok x) Q → (b : B) × (r ≡ Err b) × Q b
refused (Ok x) f Q h = search rules
refused (Err b) f Q h = (b, refl, h)

-- what stayed a value was that value
stayed : {A B E : Type 0} (r : Result A B) (v : A) (Q : B → E → Type 0) (m : Result A E) → m ≡ Ok v
    → MatchResult r (λ x. m ≡ Ok x) (λ b. IsErrAnd m (Q b)) → r ≡ Ok v
stayed (Ok x) v Q m is h = search rules
stayed (Err b) v Q m is h = search rules

pub returns-in_err-value : goal.returns-in_err-value
returns-in_err-value c =
    let rest = rest_is c.args.bytes.now c.args.at _ _ c.unwrap_or-rest.result c.get.ensures.lookup refl
    c.unwrap_or-rest.ensures
    in let first = MatchOption-at_some _ _ _ c.in_ok-number.ensures.ok_part c.first_number.ensures
    in let why = err_from_is_err_and c.from_residual-in_err-value.result
    c.from_residual-in_err-value.ensures.1
    in let past = refused c.try_from.result _ _ c.in_err-value.ensures.cases
    in let large : largest < c.value_of.result = ⊎_elim
    (λ less. absurd (OkIff-at_err _ _ _ _ c.try_from.ensures past.1 less))
    (λ more. omega arith) (cases_lt c.value_of.result (largest + 1))
    in why.1 ∙ ap Err (why.2 ∙ search rules)
    ∙ answer_from _ _ _ rest (large_first first (omega arith))

pub returns : goal.returns
returns c =
    let rest = rest_is c.args.bytes.now c.args.at _ _ c.unwrap_or-rest.result c.get.ensures.lookup refl
    c.unwrap_or-rest.ensures
    in let first = MatchOption-at_some _ _ _ c.in_ok-number.ensures.ok_part c.first_number.ensures
    in let number = c.in_ok-number.number.now
    in let fits = subst (λ r. OkIff r (c.value_of.result < 4294967296) c.value_of.result)
    (stayed c.try_from.result c.in_ok-value.value _ _ c.in_ok-value.was c.map_err.ensures.cases)
    c.try_from.ensures
    in let is = fits.1 ∙ c.value_of.ensures
    in answer_from _ _ (decoded c.in_ok-value.value (length number)) rest
    (shortest_first first (omega arith) (sym c.if-is_padded.ensures)
    (omega (arith, fits.0, fits.1, is))
    (λ i. rw (rest, get_or-drop) (c.type_inv.bytes (c.args.at + i)).fits)
    ∙ ap (λ n. decoded n (length number)) (sym is))
