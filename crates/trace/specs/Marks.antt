-- Numbers that are gathered into a list, each once, with a mark at each number met. Assumes nothing.
use Rattle.std.specs.Prelude.{◌≡◌, ℕ, ◌+◌, ◌≤◌, Bool, true, false, not, ◌⊎◌, List}
use Rattle.std.specs.Prelude.{length, count_by, nat_eq, slice_index_or}
use Rattle.std.specs.List.{ContainsAt as Has, AllByRecursion}

-- whether y is marked; a number past the end of the marks is not
abbrev pub marked : List Bool → ℕ → Bool
marked marks y = slice_index_or marks y false

-- how many places of the marks hold none
abbrev pub unmarked : List Bool → ℕ
unmarked marks = count_by not marks

-- P holds of y, old does not mark it, and new does
pub record Gain (P : ℕ → Type 0) (old new : List Bool) (y : ℕ) : Type 0 where
  pub wanted : P y
  pub before : marked old y ≡ false
  pub after : marked new y ≡ true

-- xs has, each once, the numbers with P that old does not mark; new marks these and what old marks
pub record Gathered (P : ℕ → Type 0) (old new : List Bool) (xs : List ℕ) : Type 0 where
  pub each : AllByRecursion (Gain P old new) xs
  pub once : (y : ℕ) → count_by (nat_eq y) xs ≤ 1
  pub all : (y : ℕ) → P y → marked new y ≡ true
  pub kept : (y : ℕ) → marked old y ≡ true → marked new y ≡ true
  pub fresh : (y : ℕ) → marked new y ≡ true → (marked old y ≡ true) ⊎ Has xs y
  pub fewer : unmarked new + length xs ≡ unmarked old
