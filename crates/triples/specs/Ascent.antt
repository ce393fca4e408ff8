-- Strictly ascending lists, under any order given by what comparing two elements may answer. Assumes nothing.
use Rattle.std.specs.Prelude.{◌≡◌, ℕ, ◌+◌, ◌-◌, ◌<◌, List, length, slice_index_or}
use Rattle.std.specs.declared.cmp.Ordering.TheVariants.{Less}
use Rattle.std.specs.declared.cmp.Ordering.{Ordering}

-- each element is below the next
abbrev pub Ascends : {X : Type 0} → (X → X → Ordering → Type 0) → List X → Type 0
Ascends {X} order xs = (k : ℕ) (d : X) → k + 1 < length xs
    → order (slice_index_or xs k d) (slice_index_or xs (k + 1) d) Less

-- the element at i is not above the one before it
pub record Falls {X : Type 0} (order : X → X → Ordering → Type 0) (xs : List X) (i : ℕ) : Type 0 where
  pub later : 0 < i
  pub inside : i < length xs
  pub found : Ordering
  pub compared : (d : X) → order (slice_index_or xs (i - 1) d) (slice_index_or xs i d) found
  pub unless : found ≡ Less → ⊥
