-- Laws of `with_one_more`. Assumes nothing.
use Rattle.std.proofs.Common.{ℕ, ◌≡◌, refl, List, [], ◌∷◌, None, Some}
use Rattle.std.specs.List.{fold, reduce}
use Rattle.store_cases.specs.Plain.{lesser, with_one_more}

fold-with_one_more : (best : ℕ × ℕ × ℕ) (xs : List (ℕ × ℕ × ℕ))
    → fold with_one_more (Some best) xs ≡ Some (fold lesser best xs)
fold-with_one_more best [] = refl
fold-with_one_more best (x ∷ xs) = fold-with_one_more (lesser best x) xs

pub fold-with_one_more-none : (xs : List (ℕ × ℕ × ℕ)) → fold with_one_more None xs ≡ reduce lesser xs
fold-with_one_more-none [] = refl
fold-with_one_more-none (x ∷ xs) = fold-with_one_more x xs
