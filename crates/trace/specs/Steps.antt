-- Which terms a term reaches by steps from subject to object, and the list of them. Assumes nothing.
--     Reaches has k a b   k steps lead from a to b; 0 steps lead from a to a alone
--     Reached has a b     one step or more lead from a to b; from a to a only by a cycle
--     Nearest has k a b   k is the least number of steps, 1 or more, that lead from a to b
use Rattle.std.specs.Prelude.{◌≡◌, ℕ, zero, suc, ◌<◌, ◌≤◌, Bool, true, ◌⊎◌, List, length, slice_index_or}
use Rattle.std.specs.List.{ContainsAt as Has, AllByRecursion}
use Rattle.triples.specs.declared.triple.Triple.{Triple}

-- some triple of the set has a as its subject and b as its object
pub record Step (has : Triple → Bool) (a b : ℕ) : Type 0 where
  pub property : ℕ
  pub held : has (record { subject = a; property = property; object = b }) ≡ true

-- k steps, one after the other, lead from a to b; 0 steps lead from a to a alone
abbrev pub Reaches : (Triple → Bool) → ℕ → ℕ → ℕ → Type 0
Reaches has zero a b = a ≡ b
Reaches has (suc k) a b = (x : ℕ) × Reaches has k a x × Step has x b

-- one step or more lead from a to b
pub record Reached (has : Triple → Bool) (a b : ℕ) : Type 0 where
  pub steps : ℕ
  pub some : 1 ≤ steps
  pub path : Reaches has steps a b

-- k steps lead from a to b, k is 1 or more, and no smaller number of steps, 1 or more, leads there
pub record Nearest (has : Triple → Bool) (k a b : ℕ) : Type 0 where
  pub some : 1 ≤ k
  pub path : Reaches has k a b
  pub first : (j : ℕ) → 1 ≤ j → j < k → Reaches has j a b → ⊥

-- from a, fewer steps lead to x than to y; or as many do, and x is the smaller number
pub record Nearer (has : Triple → Bool) (a x y : ℕ) : Type 0 where
  pub near : ℕ
  pub far : ℕ
  pub one : Nearest has near a x
  pub other : Nearest has far a y
  pub order : (near < far) ⊎ ((near ≡ far) × (x < y))

-- the elements of xs are what a reaches, each nearer than every one behind it, so each once
pub record Traced (has : Triple → Bool) (a : ℕ) (xs : List ℕ) : Type 0 where
  pub each : AllByRecursion (Reached has a) xs
  pub all : (b : ℕ) → Reached has a b → Has xs b
  pub order : (i j d : ℕ) → i < j → j < length xs
      → Nearer has a (slice_index_or xs i d) (slice_index_or xs j d)
