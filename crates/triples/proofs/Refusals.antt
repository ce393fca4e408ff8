-- A rejection by its parts. Assumes nothing.
use Rattle.std.proofs.Common.{◌≡◌, ℕ}
use Rattle.refusal.specs.declared.refusal.Refusal.{Refusal}
use Rattle.refusal.specs.declared.rejection.Rejection.{Rejection}

same_rejection : {r r' : Refusal} {p p' : ℕ} → r ≡ r' → p ≡ p'
    → ◌≡◌ {A = Rejection} (record { refusal = r; place = p }) (record { refusal = r'; place = p' })
same_rejection e h = cc

pub rejection_is : (x : Rejection) (refusal : Refusal) (place : ℕ) → x.refusal ≡ refusal → x.place ≡ place
    → x ≡ record { refusal = refusal; place = place }
rejection_is x refusal place e h = same_rejection e h
