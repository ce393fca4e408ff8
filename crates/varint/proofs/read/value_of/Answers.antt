-- Each byte puts one group in front; before the last byte there are at most four, so that nothing wraps.
use Rattle.std.proofs.Common.{◌≡◌, ℕ, suc, ◌+◌, ◌*◌, ◌%◌, ◌^◌, ◌<◌, List, [], ◌∷◌, ◌++◌, length, Option, Some}
use Rattle.std.proofs.Common.{sym, subst, ◌∙◌, length-append, pow-suc, arith, rules}
use native.Mathlib.Nat.{pow-le-pow_right}
use Rattle.std.proofs.lemmas.Fn.{serves_by}
use Rattle.std.proofs.lemmas.List.{length-reverse}
use Rattle.std.proofs.lemmas.Iterator.{YieldsList}
use Rattle.std.proofs.lemmas.Iterator.Adapters.{YieldsList-from_rev_slice}
use Rattle.std.proofs.lemmas.Iterator.Consumers.{fold_from_yields_List}
use Rattle.std.specs.Iterator.{AlwaysYields, Yields}
use Rattle.varint.proofs.Reading.{fold-reverse}
use Rattle.varint.proofs.read.value_of.Goals as goal

-- items before another one are fewer than all
yielded_lt : {S A B : Type 0} (steps : S → Option A → S → Type 0) (v : A → B) (ys : List B) (xs : List A)
    (s t u : S) (x : A) → AlwaysYields steps v s ys → Yields steps s xs t → steps t (Some x) u
    → length xs < length ys
yielded_lt steps v [] [] s t u x all came next =
    absurd (all x u (subst (λ r. steps r (Some x) u) (sym came) next))
yielded_lt steps v [] (y ∷ xs) s t u x all came next = absurd (all y came.0 came.1)
yielded_lt steps v (z ∷ ys) [] s t u x all came next = omega arith
yielded_lt steps v (z ∷ ys) (y ∷ xs) s t u x all came next =
    omega (arith, yielded_lt steps v ys xs came.0 t u x (all.1 y came.0 came.1).1 came.2 next)

-- the same, where a chain's list is known
yielded_before : {S A B : Type 0} {steps : S → Option A → S → Type 0} {v : A → B} {s : S} {ys : List B}
    → YieldsList steps v s ys → (xs : List A) (t u : S) (x : A) → Yields steps s xs t → steps t (Some x) u
    → length xs < length ys
yielded_before {steps = steps} {v} {s} {ys} all xs t u x came next =
    yielded_lt steps v ys xs s t u x all.runs came next

-- a group in front of so many makes a number of one group more
step_lt : {A : Type 0} (xs : List A) (x : A) (n m b : ℕ) → n < 128 ^ length xs → m ≡ n * 128 + b % 128
    → m < 128 ^ length (xs ++ x ∷ [])
step_lt xs x n m b h e =
    let l : length (xs ++ x ∷ []) ≡ suc (length xs) = omega (arith, length-append xs (x ∷ []))
    in rw l (omega (arith, pow-suc 128 (length xs)))

pub fold-requires-clause-callable : goal.fold-requires-clause-callable
fold-requires-clause-callable c =
    let all = YieldsList-from_rev_slice {s = c.rev.result} c.args.number.now cc
    in serves_by _ (λ xs p. p.1 < 128 ^ length xs)
    (λ xs q x v h k. step_lt xs x q.1 v.1 x.now h (search rules))
    _ _ _ _ (omega arith)
    (λ xs t q x u came next h.
    let few = yielded_before all xs t u x came next
    in let most = pow-le-pow_right {n = 128} (omega arith) {i = length xs} {j = 4}
    (omega (arith, few, length-reverse c.args.number.now))
    in let small : q.1 < 128 ^ 4 = omega (arith, most)
    in search rules)

pub returns : goal.returns
returns c =
    fold_from_yields_List _ (λ n b. n * 128 + b % 128) 0 _ c.fold.ensures.ran
    (YieldsList-from_rev_slice c.args.number.now cc) (λ n x m q k. search rules)
    ∙ fold-reverse c.args.number.now
