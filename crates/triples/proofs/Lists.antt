-- An element read from a list, whatever the default. Assumes nothing.
use Rattle.std.proofs.Common.{◌≡◌, ℕ, ◌-◌, ◌<◌, List, [], ◌∷◌, length, take, drop, arith}
use Rattle.std.proofs.lemmas.List.{length-drop, take_all}

-- a list with a place has an element
pub first_of : {X : Type 0} (xs : List X) (i : ℕ) → i < length xs → X
first_of [] i h = absurd (omega (arith, h))
first_of (x ∷ xs) i h = x

-- the elements from a place on, as slicing reads them
pub taken_rest : {X : Type 0} (n : ℕ) (xs : List X) → take (length xs - n) (drop n xs) ≡ drop n xs
taken_rest n xs = let len = length-drop n xs in take_all (length xs - n) (drop n xs) (omega (arith, len))
