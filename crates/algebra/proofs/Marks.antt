-- Laws of the answers among marks, by what puts the marks together. Assumes nothing.
use Rattle.std.proofs.Common.{◌≡◌, Bool, true, false, cond, List, [], ◌∷◌, ◌++◌, refl, ap, ◌∙◌}
use Rattle.std.specs.List.{flat_map}
use Rattle.algebra.specs.Walk.{Mark, try, answer, answers, follow, answer_if}

module _ {A : Type 0} where
  pub answers-append : (ms ns : List (Mark A)) → answers (ms ++ ns) ≡ answers ms ++ answers ns
  answers-append [] ns = refl
  answers-append (try v x ∷ ms) ns = answers-append ms ns
  answers-append (answer a ∷ ms) ns = ap (λ rest. a ∷ rest) (answers-append ms ns)

  pub answers-flat_map : {X : Type 0} (f : X → List (Mark A)) (xs : List X)
      → answers (flat_map f xs) ≡ flat_map (λ x. answers (f x)) xs
  answers-flat_map f [] = refl
  answers-flat_map f (x ∷ xs) =
      answers-append (f x) (flat_map f xs) ∙ ap (λ rest. answers (f x) ++ rest) (answers-flat_map f xs)

  pub answers-follow : {B : Type 0} (on : B → List (Mark A)) (ms : List (Mark B))
      → answers (follow on ms) ≡ flat_map (λ b. answers (on b)) (answers ms)
  answers-follow on [] = refl
  answers-follow on (try v x ∷ ms) = answers-follow on ms
  answers-follow on (answer b ∷ ms) =
      answers-append (on b) (follow on ms) ∙ ap (λ rest. answers (on b) ++ rest) (answers-follow on ms)

  pub answers-answer_if : (test : Bool) (a : A) → answers (answer_if test a) ≡ cond test (a ∷ []) []
  answers-answer_if true a = refl
  answers-answer_if false a = refl
