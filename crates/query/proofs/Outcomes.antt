-- What the verdict on a byte string says of reading it. Assumes nothing.
use Rattle.std.proofs.Common.{◌≡◌, ℕ, List, Some, None, Option, Ok, Err, Result, sym, ap, ◌∙◌, arith}
use Rattle.refusal.specs.declared.refusal.Refusal.{Refusal}
use Rattle.refusal.specs.declared.rejection.Rejection.{Rejection}
use Rattle.query.specs.declared.builder.Builder.{Builder}
use Rattle.query.specs.declared.error.ReadError.{ReadError}
use Rattle.query.specs.declared.error.ReadError.TheVariants.{Refused, Memory}
use Rattle.query.specs.declared.kept.Kept.{Kept}
use Rattle.query.specs.declared.query.Query.{Query}
use Rattle.std.specs.Option.{ok_or}
use Rattle.query.specs.Building.{Finished}
use Rattle.query.specs.Parts.{Group}
use Rattle.query.specs.Drafts.{draft_of}
use Rattle.query.specs.Scanning.{Scanned}
use Rattle.std.specs.Result.{IsErrAnd}
use Rattle.query.specs.Grammar.{alternatives, accepted, rejected, verdict}
use Rattle.query.specs.Readers.{refused}
use Rattle.query.specs.Reads.{Unwritten, Barred, Checked, Recognised, Answered, Recovered}
use Rattle.query.specs.Shape.{shape}
use Rattle.query.proofs.Verdicts.{verdict_refused, accepted_is_written, written_is_accepted, refused_for_good}

-- refused

pub unwritten_rejected : (bytes : List ℕ) (r : Refusal) (at : ℕ) → verdict bytes ≡ rejected r at
    → Unwritten bytes
unwritten_rejected bytes r at e q h w =
    let yes = written_is_accepted bytes q h w in
    let both : accepted q ≡ rejected r at = sym yes ∙ e in
    let z : ◌≡◌ {A = ℕ} 0 1 = cc in omega arith

pub barred_rejected : (bytes : List ℕ) (e : Rejection) → verdict bytes ≡ rejected e.refusal e.place
    → Barred bytes e
barred_rejected bytes e v h other agree =
    unwritten_rejected other e.refusal e.place
    (refused_for_good bytes other e.refusal e.place v h agree)

-- scan

pub rejected_as : {r : Refusal} {at : ℕ} (e : Rejection) → (e.refusal ≡ r) × (e.place ≡ at)
    → rejected r at ≡ rejected e.refusal e.place
rejected_as e (r, at) = cc

pub scanned_refused : {T : Type 0} (bytes : List ℕ) (r : Result T Rejection) (b : Builder) (e : Rejection)
    → IsErrAnd r (λ f. f ≡ e) → alternatives 0 bytes ≡ refused e.refusal e.place → Scanned bytes r b
scanned_refused bytes (Ok x) b e is h = absurd is
scanned_refused bytes (Err f) b e is h =
    verdict_refused bytes f.refusal f.place (h ∙ ap (λ g. refused g.refusal g.place) (sym is))

-- check

pub checked_scanned : {T : Type 0} (bytes : List ℕ) (r : Result T Rejection) (b : Builder)
    → Scanned bytes r b → Checked bytes r
checked_scanned bytes (Ok x) b h = (h.0, h.1.0)
checked_scanned bytes (Err e) b h = h

pub recognised_checked : {T : Type 0} (bytes : List ℕ) (r : Result T Rejection) → Checked bytes r
    → Recognised bytes r
recognised_checked bytes (Ok x) (q, v) = let w = accepted_is_written bytes q v in (q, (w.0, w.1))
recognised_checked bytes (Err e) h =
    (unwritten_rejected bytes e.refusal e.place h, barred_rejected bytes e h)

-- read

-- what was kept is the query, and where nothing was kept memory was wanting
pub answered_finished : (bytes : List ℕ) (b : Builder) (o : Option Query) → Finished b o
    → ((k : Kept) → b.kept ≡ Some k → verdict bytes ≡ accepted (draft_of k).done)
    → (q : List Group) × (verdict bytes ≡ accepted q) → Answered bytes (ok_or o Memory)
answered_finished bytes b None f kept v = v
answered_finished bytes b (Some q) (k, (is, same)) kept v = kept k is ∙ ap accepted (sym same)

pub recovered_answered : (bytes : List ℕ) (r : Result Query ReadError) → Answered bytes r → Recovered bytes r
recovered_answered bytes (Ok q) h = let w = accepted_is_written bytes (shape q) h in (w.0, w.1)
recovered_answered bytes (Err (Refused e)) h =
    (unwritten_rejected bytes e.refusal e.place h, barred_rejected bytes e h)
recovered_answered bytes (Err Memory) (q, v) = let w = accepted_is_written bytes q v in (q, (w.0, w.1))
