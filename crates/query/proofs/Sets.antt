-- Laws of sets of variables. Assumes nothing.
use Rattle.std.proofs.Common.{◌≡◌, ℕ, zero, suc, ◌+◌, ◌<◌, ◌≤◌, List, get_or, sym, ap, ◌∙◌, subst}
use Rattle.std.proofs.Common.{⊎_elim, arith}
use Rattle.std.proofs.lemmas.Bool.{cases_eq}
use Rattle.std.specs.Array.{IsFromFnResultFrom}
use Rattle.std.specs.Fn.{Mut, Called}

-- what an array made by calls that leave the closure as it is holds at each place
module _ {F B : Type 0} {g : Mut F (ℕ × Unit {0}) B} {f : F} (h : ℕ → B) (most : ℕ)
    (calls : (i : ℕ) (y : B) (q : F) → i < most → Called g f (i, tt) y q → (q ≡ f) × (y ≡ h i)) where
  pub from_fn_each : (ys : List B) (n i : ℕ) → i + n ≤ most → IsFromFnResultFrom g f ys i n
      → (k : ℕ) (d : B) → i ≤ k → k < i + n → get_or ys k d ≡ h k
  from_fn_each ys zero i m each k d low high = absurd (omega arith)
  from_fn_each ys (suc n) i m (q, y, is, called, rest) k d low high =
      let c = calls i y q (omega arith) called in
      ⊎_elim
      (λ e. ap (λ j. get_or ys j d) e ∙ is.1 d ∙ c.1 ∙ ap h (sym e))
      (λ ne. from_fn_each ys n (i + 1) (omega arith) (subst (λ s. IsFromFnResultFrom g s ys (i + 1) n) c.0
      rest)
      k d (omega (arith, ne)) (omega arith))
      (cases_eq k i)
