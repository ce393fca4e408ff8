-- Kinds of nodes and their numbers. Assumes nothing.
use Rattle.std.proofs.Common.{◌≡◌, ◌≢◌, ℕ, ◌≤◌, cond, eqb, List, [], ◌∷◌, Some, None}
use Rattle.std.proofs.Common.{Option, sym, refl, ap, ◌∙◌, ⊎_elim, arith}
use Rattle.std.proofs.lemmas.Bool.{eqb-true, cases_Bool}
use Rattle.varint.specs.Encode.{largest}
use Rattle.query.specs.declared.kind.Kind.{Kind}
use Rattle.query.specs.declared.kind.Kind.TheVariants.{Equal, Less, Bound, Not, And, Or}
use Rattle.query.specs.Codes.{number_of, kind_among, kind_from}

pub kind_back : (k : Kind) → kind_from (number_of k) ≡ Some k
kind_back Equal = refl
kind_back Less = refl
kind_back Bound = refl
kind_back Not = refl
kind_back And = refl
kind_back Or = refl

pub kind_small : (k : Kind) → number_of k ≤ largest
kind_small Equal = omega arith
kind_small Less = omega arith
kind_small Bound = omega arith
kind_small Not = omega arith
kind_small And = omega arith
kind_small Or = omega arith

-- whatever is found among kinds has the number that was looked for
found_among : (ks : List Kind) (n : ℕ) (k : Kind) → kind_among ks n ≡ Some k → number_of k ≡ n
found_among [] n k e = let z : ◌≡◌ {A = ℕ} 0 1 = cc in absurd (omega arith)
found_among (j ∷ ks) n k e =
    ⊎_elim
    (λ t. let same : Some j ≡ Some k = sym (ap (λ b. cond b (Some j) (kind_among ks n)) t) ∙ e in
    let found : j ≡ k = cc in
    ap number_of (sym found) ∙ eqb-true (number_of j) n t)
    (λ t. found_among ks n k (sym (ap (λ b. cond b (Some j) (kind_among ks n)) t) ∙ e))
    (cases_Bool (eqb (number_of j) n))

pub kind_found : (n : ℕ) (k : Kind) → kind_from n ≡ Some k → number_of k ≡ n
kind_found n k e = found_among (Equal ∷ Less ∷ Bound ∷ Not ∷ And ∷ Or ∷ []) n k e

-- n is the number of no kind
pub record Unnamed (n : ℕ) : Type 0 where
  pub equal : 1 ≢ n
  pub less : 2 ≢ n
  pub bound : 3 ≢ n
  pub inverse : 4 ≢ n
  pub both : 5 ≢ n
  pub either : 6 ≢ n

unnamed : (n : ℕ) → Unnamed n → (k : Kind) → number_of k ≢ n
unnamed n u Equal e = u.equal e
unnamed n u Less e = u.less e
unnamed n u Bound e = u.bound e
unnamed n u Not e = u.inverse e
unnamed n u And e = u.both e
unnamed n u Or e = u.either e

-- where no kind has the number, none is found
none_found : (n : ℕ) (r : Option Kind) → Unnamed n → kind_from n ≡ r → None ≡ r
none_found n None u e = refl
none_found n (Some k) u e = absurd (unnamed n u k (kind_found n k e))

-- a kind that has the number, or none where no kind has it, is what is found
pub kind_decided : (n : ℕ) (r : Option Kind) → ((k : Kind) → r ≡ Some k → number_of k ≡ n)
    → (r ≡ None → Unnamed n) → r ≡ kind_from n
kind_decided n (Some k) some none = sym (kind_back k) ∙ ap kind_from (some k refl)
kind_decided n None some none = none_found n (kind_from n) (none refl) refl
