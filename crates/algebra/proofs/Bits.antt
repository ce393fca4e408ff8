-- The bits of a mask. Assumes nothing.
--     bits p a n    the number whose bit v, for v from a on and below a + n, is 1 exactly if v passes p
use Rattle.std.proofs.Common.{◌≡◌, ℕ, zero, suc, ◌+◌, ◌*◌, ◌/◌, ◌%◌, ◌^◌, ◌<◌, ◌≤◌, Bool, true, false, cond}
use Rattle.std.proofs.Common.{eqb, refl, ap, ◌∙◌, subst, ⊎_elim, arith, pow-suc, add-one, add-zero, add-mul}
use Rattle.std.proofs.Common.{mul_assoc, mul_comm}
use Rattle.std.proofs.lemmas.Bool.{cases_Bool, cases_eq, cond-true, cond-false, cond_both}
use Rattle.std.proofs.lemmas.Nat.{div-mul-add, mod-mul-add}
use Rattle.std.specs.List.{range_with_len}
use Rattle.query.specs.Lawful.{total}
use Rattle.query.specs.Limits.{variables}
use Rattle.filter.specs.Rows.{Row, has_value}
use Rattle.algebra.specs.Packing.{mask, bit}

-- arithmetic

twice : (a : ℕ) → 2 ^ (a + 1) ≡ 2 ^ a * 2
twice a = ap (λ k. 2 ^ k) (add-one a) ∙ pow-suc 2 a

-- so many times twice a number, and once more if c is 1
odd_times : (u c x : ℕ) → (u * 2 + c) * x ≡ u * (x * 2) + c * x
odd_times u c x =
    add-mul (u * 2) c x ∙ ap (λ k. k + c * x) (mul_assoc u 2 x ∙ ap (λ k. u * k) (mul_comm 2 x))

-- a bit is 1 exactly if its test is true
one-if : (b : Bool) → eqb (cond b 1 0) 1 ≡ b
one-if true = refl
one-if false = refl

-- a bit that is 1 or 0, at its place
bit-at : (b : Bool) (x : ℕ) → cond b x 0 ≡ cond b 1 0 * x
bit-at true x = omega arith
bit-at false x = omega arith

-- bits

-- the number whose bit v, from a on and below a + n, is 1 exactly if v passes p
abbrev bits : (ℕ → Bool) → ℕ → ℕ → ℕ
bits p a n = total (λ v. cond (p v) (2 ^ v) 0) (range_with_len a n)

-- the number stays below the bit behind its last
bits-below : (p : ℕ → Bool) (a n : ℕ) → bits p a n + 2 ^ a ≤ 2 ^ (a + n)
bits-below p a zero = omega (arith, ap (λ k. 2 ^ k) (add-zero a))
bits-below p a (suc n) =
    let later = bits-below p (a + 1) n in
    let same : 2 ^ (a + 1 + n) ≡ 2 ^ (a + suc n) = ap (λ k. 2 ^ k) (omega arith) in
    ⊎_elim
    (λ t. omega (arith, later, same, twice a, cond-true (p a) (2 ^ a) 0 t))
    (λ f. omega (arith, later, same, twice a, cond-false (p a) (2 ^ a) 0 f))
    (cases_Bool (p a))

-- where what follows is so many times its first bit, it is twice as many times the bit before, and once more
-- if that is 1
bits-first : (p : ℕ → Bool) (a n u : ℕ) → bits p (a + 1) n ≡ u * 2 ^ (a + 1)
    → bits p a (suc n) ≡ (u * 2 + cond (p a) 1 0) * 2 ^ a
bits-first p a n u later =
    let next : bits p (a + 1) n ≡ u * (2 ^ a * 2) = later ∙ ap (λ k. u * k) (twice a) in
    omega (arith, next, bit-at (p a) (2 ^ a), odd_times u (cond (p a) 1 0) (2 ^ a))

-- the number is so many times its first bit
bits-multiple : (p : ℕ → Bool) (a n : ℕ) → (u : ℕ) × (bits p a n ≡ u * 2 ^ a)
bits-multiple p a zero = (0, omega arith)
bits-multiple p a (suc n) =
    let (u, later) = bits-multiple p (a + 1) n in
    (u * 2 + cond (p a) 1 0, bits-first p a n u later)

-- the bit at v, with what stands above it and what stands below
record Parted (p : ℕ → Bool) (a n v : ℕ) : Type 0 where
  above : ℕ
  low : ℕ
  is : bits p a n ≡ (above * 2 + cond (p v) 1 0) * 2 ^ v + low
  room : low + 2 ^ a ≤ 2 ^ v

parted : (p : ℕ → Bool) (a n v : ℕ) → a ≤ v → v < a + n → Parted p a n v
parted p a zero v from below = absurd (omega arith)
parted p a (suc n) v from below =
    ⊎_elim
    (λ e. subst (Parted p a (suc n)) e
    (let (u, later) = bits-multiple p (a + 1) n in
    record {
      above = u;
      low = 0;
      is = omega (arith, bits-first p a n u later);
      room = omega arith;
    }))
    (λ ne. let h = parted p (a + 1) n v (omega (arith, ne)) (omega arith) in
    let most = cond_both (p a) (2 ^ a) 0 (λ k. k ≤ 2 ^ a) (λ _. omega arith) (λ _. omega arith) in
    record {
      above = h.above;
      low = cond (p a) (2 ^ a) 0 + h.low;
      is = omega (arith, h.is);
      room = omega (arith, h.room, twice a, most);
    })
    (cases_eq a v)

-- a bit of the number is 1 exactly if it passes
bit-bits : (p : ℕ → Bool) (n v : ℕ) → v < n → bit (bits p 0 n) v ≡ p v
bit-bits p n v inside =
    let h = parted p 0 n v (omega arith) (omega arith) in
    let last = cond_both {A = ℕ} (p v) 1 0 (λ k. k < 2) (λ _. omega arith) (λ _. omega arith) in
    ap (λ k. eqb (k / 2 ^ v % 2) 1) h.is
    ∙ ap (λ k. eqb (k % 2) 1)
    (div-mul-add (h.above * 2 + cond (p v) 1 0) (2 ^ v) h.low (omega (arith, h.room)))
    ∙ ap (λ k. eqb k 1) (mod-mul-add h.above 2 (cond (p v) 1 0) last)
    ∙ one-if (p v)

-- mask

pub mask-small : (r : Row) → mask r < 2 ^ variables
mask-small r = let below = bits-below (has_value r) 0 variables in omega arith

pub bit-mask : (r : Row) (v : ℕ) → v < variables → bit (mask r) v ≡ has_value r v
bit-mask r v inside = bit-bits (has_value r) variables v inside
