-- Laws of groups: how one group is split off, and what holds of every number by its groups. Assumes nothing.
use Rattle.std.proofs.Common.{◌≡◌, ℕ, zero, suc, ◌+◌, ◌*◌, ◌/◌, ◌%◌, ◌^◌, ◌<◌, ◌≤◌, max, ltb, List, [], ◌∷◌}
use Rattle.std.proofs.Common.{length}
use Rattle.std.proofs.Common.{sym, refl, ap, ◌∙◌, ⊎_elim, pow-suc, arith}
use native.Mathlib.Nat.{pow-le-pow_right}
use Rattle.std.proofs.lemmas.Nat.{pow-add}
use Rattle.std.proofs.lemmas.Bool.{cases_lt, cond_both, cond-true, cond-false, lt-ltb, le-ltb, ltb-true}
use Rattle.std.proofs.lemmas.Bool.{ltb-false}
use Rattle.varint.specs.Encode.{encode, groups, largest}

-- groups

pub groups_less : (k n : ℕ) → n < 128 → groups k n ≡ n ∷ []
groups_less zero n h = refl
groups_less (suc k) n h =
    cond-true (ltb n 128) (n ∷ []) ((128 + n % 128) ∷ groups k (n / 128)) (lt-ltb n 128 h)

pub groups_more : (k n : ℕ) → 128 ≤ n → groups (suc k) n ≡ (128 + n % 128) ∷ groups k (n / 128)
groups_more k n h =
    cond-false (ltb n 128) (n ∷ []) ((128 + n % 128) ∷ groups k (n / 128)) (le-ltb n 128 h)

-- a number that k groups and a last one hold takes no more where more are allowed
groups_enough : (k n : ℕ) → n < 128 ^ suc k → groups (suc k) n ≡ groups k n
groups_enough zero n h = groups_less 1 n h
groups_enough (suc k) n h =
    ⊎_elim
    (λ less. groups_less (suc (suc k)) n less ∙ sym (groups_less (suc k) n less))
    (λ more. let e = groups_enough k (n / 128) (omega (arith, pow-suc 128 (suc k)))
    in groups_more (suc k) n more ∙ ap (λ bs. (128 + n % 128) ∷ bs) e ∙ sym (groups_more k n more))
    (cases_lt n 128)

-- what holds of a last byte, and with each byte before it, holds of a number and its groups
groups_each : (P : ℕ → List ℕ → Type 0)
    → ((n : ℕ) → n < 128 → P n (n ∷ []))
    → ((n : ℕ) (bs : List ℕ) → 128 ≤ n → P (n / 128) bs → P n ((128 + n % 128) ∷ bs))
    → (k n : ℕ) → n < 128 ^ suc k → P n (groups k n)
groups_each P last more zero n h = last n h
groups_each P last more (suc k) n h =
    cond_both (ltb n 128) (n ∷ []) ((128 + n % 128) ∷ groups k (n / 128)) (P n)
    (λ e. last n (ltb-true n 128 e))
    (λ e. more n (groups k (n / 128)) (ltb-false n 128 e)
    (groups_each P last more k (n / 128) (omega (arith, pow-suc 128 (suc k)))))

pub length-groups : (k n : ℕ) → (1 ≤ length (groups k n)) × (length (groups k n) ≤ suc k)
length-groups zero n = (omega arith, omega arith)
length-groups (suc k) n =
    cond_both (ltb n 128) (n ∷ []) ((128 + n % 128) ∷ groups k (n / 128))
    (λ bs. (1 ≤ length bs) × (length bs ≤ suc (suc k)))
    (λ _. (omega arith, omega arith))
    (λ _. let h = length-groups k (n / 128) in (omega arith, omega arith))

-- encode

pub encode_less : (n : ℕ) → n < 128 → encode n ≡ n ∷ []
unfolding encode
encode_less n h = groups_less 4 n h

pub encode_more : (n : ℕ) → n ≤ largest → 128 ≤ n → encode n ≡ (128 + n % 128) ∷ encode (n / 128)
unfolding encode
encode_more n h more =
    groups_more 3 n more ∙ ap (λ bs. (128 + n % 128) ∷ bs) (sym (groups_enough 3 (n / 128) (omega arith)))

pub encode_each : (P : ℕ → List ℕ → Type 0)
    → ((n : ℕ) → n < 128 → P n (n ∷ []))
    → ((n : ℕ) (bs : List ℕ) → 128 ≤ n → P (n / 128) bs → P n ((128 + n % 128) ∷ bs))
    → (n : ℕ) → n ≤ largest → P n (encode n)
unfolding encode
encode_each P last more n h = groups_each P last more 4 n (omega arith)

-- a number of so many groups takes as many bytes
length-groups_at : (k n j : ℕ) → j ≤ k → (0 < j → 128 ^ j ≤ n) → n < 128 ^ suc j
    → length (groups k n) ≡ suc j
length-groups_at k n zero h low high = ap length (groups_less k n (omega arith))
length-groups_at zero n (suc j) h low high = absurd (omega arith)
length-groups_at (suc k) n (suc j) h low high =
    let some : 128 ^ 0 ≤ 128 ^ j = pow-le-pow_right {n = 128} (omega arith) {i = 0} {j = j} (omega arith)
    in let split = pow-suc 128 j
    in let more : 128 ≤ n = omega (arith, low (omega arith))
    in ap length (groups_more k n more)
    ∙ ap suc (length-groups_at k (n / 128) j (omega arith) (λ p. omega (arith, low (omega arith)))
    (omega (arith, pow-suc 128 (suc j))))

pow_group : (j : ℕ) → 128 ^ j ≡ 2 ^ (7 * j)
pow_group zero = refl
pow_group (suc j) =
    let e : 7 * suc j ≡ 7 + 7 * j = omega arith
    in omega (arith, pow-suc 128 j, pow_group j, pow-add 2 7 (7 * j), ap (λ n. 2 ^ n) e)

-- a number takes a byte for each seven of its bits, and 0 takes one
pub length-encode_bits : (n m r : ℕ) → m ≡ max n 1 → n ≤ largest → r < 32 → 2 ^ r ≤ m → m < 2 * 2 ^ r
    → r / 7 + 1 ≡ length (encode n)
unfolding encode
length-encode_bits n m r e h few low high =
    let j = r / 7
    in let below : 2 ^ (7 * j) ≤ 2 ^ r =
    pow-le-pow_right {n = 2} (omega arith) {i = 7 * j} {j = r} (omega arith)
    in let above : 2 ^ suc r ≤ 2 ^ (7 * suc j) =
    pow-le-pow_right {n = 2} (omega arith) {i = suc r} {j = 7 * suc j} (omega arith)
    in let is = length-groups_at 4 n j (omega arith)
    (λ some. let more : 128 ^ 1 ≤ 128 ^ j = pow-le-pow_right {n = 128} (omega arith) {i = 1} {j = j} some
    in omega (arith, pow_group j))
    (omega (arith, pow_group (suc j), pow-suc 2 r))
    in omega arith
