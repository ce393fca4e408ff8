-- How often a number stands in a list, and lists that rise. Assumes nothing.
use Rattle.std.proofs.Common.{◌≡◌, ℕ, ◌+◌, ◌<◌, ◌≤◌, cond, eqb, List, length, get_or, count_by, refl, ⊎_elim}
use Rattle.std.proofs.Common.{arith}
use Rattle.std.proofs.ByRecursion.{All-weaker, sum_by_le}
use Rattle.std.proofs.lemmas.List.Sums.{sum_by_more, sum_by-take-le}
use Rattle.std.proofs.lemmas.Bool.{cases_lt, ne_eqb, cond-false}
use Rattle.std.proofs.lemmas.Bool.Decides.{nat_tests}
use Rattle.std.specs.List.{AllByRecursion}
use Rattle.std.specs.List.Sorted.{IsNonDecreasing}

pub count_none : (y : ℕ) (xs : List ℕ) → AllByRecursion (λ x. y ≡ x → ⊥) xs → count_by (eqb y) xs ≡ 0
count_none y xs h =
    let none = sum_by_le (λ x. cond (eqb y x) 1 0) 0 xs
    (All-weaker (λ x. y ≡ x → ⊥) (λ x. cond (eqb y x) 1 0 ≤ 0)
    (λ x k. let e = cond-false {A = ℕ} (eqb y x) 1 0 (ne_eqb y x k) in omega arith) xs h) in
    omega arith

count_twice : (y : ℕ) (xs : List ℕ) (i d : ℕ) → i + 1 < length xs → y ≡ get_or xs i d
    → y ≡ get_or xs (i + 1) d → 2 ≤ count_by (eqb y) xs
count_twice y xs i d h e f =
    let one : i < length xs = omega arith in
    let here = sum_by_more (λ x. cond (eqb y x) 1 0) xs i d one in
    let next = sum_by_more (λ x. cond (eqb y x) 1 0) xs (i + 1) d h in
    let all = sum_by-take-le (λ x. cond (eqb y x) 1 0) xs (i + 1 + 1) in
    grind (arith, nat_tests, here, next, all)

-- a list that rises and has no number twice rises strictly
pub rises_strictly : (xs : List ℕ) → IsNonDecreasing xs → ((y : ℕ) → count_by (eqb y) xs ≤ 1)
    → (i j d : ℕ) → i < j → j < length xs → get_or xs i d < get_or xs j d
rises_strictly xs up once i j d h k =
    ⊎_elim (λ l. l)
    (λ l. let next = up i (i + 1) d (omega arith) (omega arith) in
    let last = up (i + 1) j d (omega arith) k in
    let twice = count_twice (get_or xs i d) xs i d (omega arith) refl (omega (arith, l, next, last)) in
    let few = once (get_or xs i d) in
    absurd (omega (arith, twice, few)))
    (cases_lt (get_or xs i d) (get_or xs j d))
