-- Laws of ranges, the n numbers from a on. Assumes nothing.
use Rattle.std.proofs.Common.{ℕ, ◌+◌, ◌<◌, ◌≤◌, ⊎_elim, arith, zero, suc, inl, inr}
use Rattle.std.proofs.lemmas.Bool.{cases_eq}
use Rattle.std.specs.List.{range_with_len, AllByRecursion}
use Rattle.algebra.proofs.Lists.{all-weaker}
use Rattle.algebra.proofs.Members.{Member}

-- each is from a on and below a + n
pub all-range : (a n : ℕ) → AllByRecursion (λ x. (a ≤ x) × (x < a + n)) (range_with_len a n)
all-range a zero = tt
all-range a (suc n) = (
  (omega arith, omega arith),
  all-weaker (λ x. (a + 1 ≤ x) × (x < (a + 1) + n)) (λ x. (a ≤ x) × (x < a + suc n))
      (λ x h. (omega (arith, h.0), omega (arith, h.1))) (range_with_len (a + 1) n) (all-range (a + 1) n),
)

-- and each that is from a on and below a + n is there
pub member-range : (a n x : ℕ) → a ≤ x → x < a + n → Member x (range_with_len a n)
member-range a zero x low high = absurd (omega (arith, low, high))
member-range a (suc n) x low high =
    ⊎_elim inl
    (λ ne. inr (member-range (a + 1) n x (omega (arith, low, ne)) (omega (arith, high)))) (cases_eq x a)
