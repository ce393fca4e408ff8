-- Laws of the tests over lists that make a query lawful. Assumes nothing.
use Rattle.std.proofs.Common.{◌≡◌, ℕ, zero, suc, ◌+◌, ◌*◌, ◌<◌, ◌≤◌, Bool, true, false, not, ◌&&◌, ◌||◌, List}
use Rattle.std.proofs.Common.{[], ◌∷◌, ◌++◌, length, get_or, Decides, sym, refl, ap, ◌∙◌, ⊎_elim}
use Rattle.std.proofs.Common.{mul-suc, arith}
use Rattle.std.proofs.lemmas.List.{get_or_read_under}
use Rattle.std.proofs.lemmas.List.Folds.{list_any-append, list_any_at, Any-from_list_any}
use Rattle.std.proofs.lemmas.Bool.{and_parts, and_from, or_cases, or_left, or_right}
use Rattle.std.proofs.lemmas.Bool.Decides.{Decides-below_or}
use Rattle.query.specs.Parts.{Group}
use Rattle.std.specs.List.{list_all, list_any}
use Rattle.query.specs.Lawful.{in_two, total, mentions, shared_below, shares}

-- ||

pub or_false : (x : Bool) → (x || false) ≡ x
or_false true = refl
or_false false = refl

and_false : (x : Bool) → (x && false) ≡ false
and_false true = refl
and_false false = refl

two_of_three : (a s x t : Bool) → ((a && (s || x)) || (t || (s && x))) ≡ (((a && s) || t) || ((a || s) && x))
two_of_three false s x t = refl
two_of_three true true x t = refl
two_of_three true false true true = refl
two_of_three true false true false = refl
two_of_three true false false true = refl
two_of_three true false false false = refl

-- some

pub some_push : {A : Type 0} (p : A → Bool) (xs : List A) (x : A)
    → list_any p (xs ++ x ∷ []) ≡ (list_any p xs || p x)
some_push p xs x = list_any-append p xs (x ∷ []) ∙ ap (λ b. list_any p xs || b) (or_false (p x))

-- in_two

-- p holds of two elements
pub record Two {A : Type 0} (p : A → Bool) (xs : List A) (d : A) : Type 0 where
  pub first : ℕ
  pub second : ℕ
  pub ordered : first < second
  pub inside : second < length xs
  pub first_holds : p (get_or xs first d) ≡ true
  pub second_holds : p (get_or xs second d) ≡ true

-- where p holds of the elements i and j, and i stands before j, it holds of two elements
in_two_from : {A : Type 0} (p : A → Bool) (xs : List A) (i j : ℕ) (d : A) → i < j → j < length xs
    → p (get_or xs i d) ≡ true
    → p (get_or xs j d) ≡ true → in_two p xs ≡ true
in_two_from p [] i j d o l h k = absurd (omega arith)
in_two_from p (x ∷ xs) zero zero d o l h k = absurd (omega arith)
in_two_from p (x ∷ xs) zero (suc j) d o l h k =
    or_left (p x && list_any p xs) (in_two p xs)
    (and_from (p x) (list_any p xs) h (list_any_at p xs j d (omega arith) k))
in_two_from p (x ∷ xs) (suc i) zero d o l h k = absurd (omega arith)
in_two_from p (x ∷ xs) (suc i) (suc j) d o l h k =
    or_right (p x && list_any p xs) (in_two p xs)
    (in_two_from p xs i j d (omega arith) (omega arith) h k)

-- p holds of the first element and of one behind it
two_with_first : {A : Type 0} (p : A → Bool) (x : A) (xs : List A) (d : A) → p x ≡ true
    → list_any p xs ≡ true → Two p (x ∷ xs) d
two_with_first p x xs d h e =
    let (j, y, l, is, t) = Any-from_list_any p xs e in
    record {
      first = 0;
      second = suc j;
      ordered = omega arith;
      inside = omega arith;
      first_holds = h;
      second_holds = ap p (sym (get_or_read_under xs j (length xs) y d (sym is) l refl)) ∙ t;
    }

-- two elements behind the first are two elements
two_behind_first : {A : Type 0} (p : A → Bool) (x : A) (xs : List A) (d : A) → Two p xs d
    → Two p (x ∷ xs) d
two_behind_first p x xs d t =
    let o = t.ordered in
    let i = t.inside in
    record {
      first = suc t.first;
      second = suc t.second;
      ordered = omega arith;
      inside = omega arith;
      first_holds = t.first_holds;
      second_holds = t.second_holds;
    }

-- where it is said of two elements, they are there
in_two_at : {A : Type 0} (p : A → Bool) (xs : List A) (d : A) → in_two p xs ≡ true → Two p xs d
in_two_at p [] d h = let z : ◌≡◌ {A = ℕ} 0 1 = cc in absurd (omega arith)
in_two_at p (x ∷ xs) d h =
    ⊎_elim
    (λ e. let w = and_parts (p x) (list_any p xs) e in two_with_first p x xs d w.0 w.1)
    (λ e. two_behind_first p x xs d (in_two_at p xs d e))
    (or_cases (p x && list_any p xs) (in_two p xs) h)

-- it is said of two elements exactly where p holds of two at different places
pub in_two_decides : {A : Type 0} (p : A → Bool) (xs : List A) (d : A) → Decides (in_two p xs) (Two p xs d)
in_two_decides p xs d = (
  in_two_at p xs d,
  λ t. in_two_from p xs t.first t.second d t.ordered t.inside t.first_holds t.second_holds,
)

-- with one element more, two are among them where two were before, or one was and it is the other
pub in_two_push : {A : Type 0} (p : A → Bool) (xs : List A) (x : A)
    → in_two p (xs ++ x ∷ []) ≡ (in_two p xs || (list_any p xs && p x))
in_two_push p [] x = ap (λ b. b || false) (and_false (p x))
in_two_push p (y ∷ xs) x =
    ap (λ b. (p y && b) || in_two p (xs ++ x ∷ [])) (some_push p xs x)
    ∙ ap (λ b. (p y && (list_any p xs || p x)) || b) (in_two_push p xs x)
    ∙ two_of_three (p y) (list_any p xs) (p x) (in_two p xs)

-- shares

-- a variable in the triples of two blocks and not in the required triples
abbrev pub lacking : Group → ℕ → Bool
lacking g v = in_two (λ b. mentions v b.triples) g.blocks && not (mentions v g.required)

pub shares_decides : (g : Group) → Decides (shares g) ((v : ℕ) × (v < 16) × (lacking g v ≡ true))
shares_decides g =
    Decides-below_or (lacking g) (λ v. lacking g v ≡ true) (λ n. shared_below n g) (λ v. (λ e. e, λ e. e))
    refl (λ _. refl) 16

-- total

pub total_push : {A : Type 0} (f : A → ℕ) (xs : List A) (x : A) → total f (xs ++ x ∷ []) ≡ total f xs + f x
total_push f [] x = omega arith
total_push f (y ∷ xs) x = omega (arith, total_push f xs x)

-- where each counts at most so much
pub total_most : {A : Type 0} (f : A → ℕ) (most : ℕ) (ok : A → Bool) (xs : List A)
    → ((x : A) → ok x ≡ true → f x ≤ most)
    → list_all ok xs ≡ true → total f xs ≤ most * length xs
total_most f most ok [] bound h = omega arith
total_most f most ok (x ∷ xs) bound h =
    let w = and_parts (ok x) (list_all ok xs) h in
    omega (arith, bound x w.0, total_most f most ok xs bound w.1, mul-suc most (length xs))
