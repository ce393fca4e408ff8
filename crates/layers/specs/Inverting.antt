-- What laying the inverse of a property over a store answers. Assumes nothing.
use Rattle.std.specs.Prelude.{◌≡◌, ℕ, true, false, ◌&&◌, Ok, Err, Result}
use Rattle.refusal.specs.declared.declined.Declined.{Declined}
use Rattle.refusal.specs.declared.refusal.Refusal.TheVariants.{PropertyOutside}
use Rattle.refusal.specs.declared.rejection.Rejection.{Rejection}
use Rattle.triples.specs.Meaning.{Meaning, term}
use Rattle.layers.specs.declared.inverse.Inverse.{Inverse}
use Rattle.layers.specs.Inverses.{with_inverse, with_turned}

-- p or q is no term of m, and the refusal says so and names no place
pub record Declines (m : Meaning) (p q : ℕ) (e : Rejection) : Type 0 where
  pub outside : (term m.top p && term m.top q) ≡ false
  pub rejection : e ≡ record { refusal = PropertyOutside; place = 0 }

-- the store back stands for what the store below stood for, and keeps what it kept
abbrev pub Unchanged : {S K : Type 0} → (S → Meaning) → (S → K) → S → S → Type 0
Unchanged meaning kept below back = (meaning back ≡ meaning below) × (kept back ≡ kept below)

-- p and q are terms of the store below, and the layer is of p and q over the store, which is unchanged, and
-- stands for it with q as the inverse of p; or it is declined, and the store given back is unchanged
abbrev pub Inverted : {S K : Type 0} → (S → Meaning) → (S → K) → S → ℕ → ℕ → Result (Inverse S) (Declined S)
    → Type 0
Inverted meaning kept below p q (Ok layer) =
    ((term (meaning below).top p && term (meaning below).top q) ≡ true)
    × (with_turned layer.turn.property layer.turn.inverse (meaning layer.below)
    ≡ with_inverse p q (meaning below))
    × Unchanged meaning kept below layer.below × (layer.turn.property ≡ p) × (layer.turn.inverse ≡ q)
Inverted meaning kept below p q (Err declined) =
    Declines (meaning below) p q declined.rejection × Unchanged meaning kept below declined.given
