-- What one of two things stands for. Assumes nothing.
use Rattle.feedtrace.specs.declared.either.Either.{Either}
use Rattle.feedtrace.specs.declared.either.Either.TheVariants.{Left, Right}

-- what the one of the two stands for
abbrev pub either_of : {A B C : Type 0} → (A → C) → (B → C) → Either A B → C
either_of f g (Left a) = f a
either_of f g (Right b) = g b

-- what either of two keeps
abbrev pub KeptOf : Type 0 → Type 0 → Type 0
KeptOf K L = Either K L

-- what the one of the two keeps, and which of the two it is
abbrev pub either_kept : {A B K L : Type 0} → (A → K) → (B → L) → Either A B → KeptOf K L
either_kept f g = either_of (λ a. Left (f a)) (λ b. Right (g b))

-- what holds of all that each of the two can stand for holds of what the one of them stands for
pub either_keeps : {A B C : Type 0} (P : C → Type 0) (f : A → C) (g : B → C)
    → ((a : A) → P (f a)) → ((b : B) → P (g b)) → (e : Either A B) → P (either_of f g e)
either_keeps P f g left right (Left a) = left a
either_keeps P f g left right (Right b) = right b
