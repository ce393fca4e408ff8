-- The rows that give some variables values: which they are, and that each is there. Assumes nothing.
--     Rising n vs         the variables ascend, and each is below n
--     Fills top vs r s    s gives each variable of vs a term from 1 to top, and is like r elsewhere
use Rattle.std.proofs.Common.{◌≡◌, ℕ, ◌<◌, List, [], ◌∷◌, length, refl, sym, ap, ◌∙◌, subst, ⊎_elim, arith}
use Rattle.std.proofs.Common.{inl, inr, ◌+◌, ◌≤◌}
use Rattle.std.proofs.lemmas.Bool.{cases_eq}
use Rattle.std.specs.List.{AllByRecursion}
use Rattle.triples.specs.Meaning.{Term, first_term}
use Rattle.filter.specs.Rows.{Row, value}
use Rattle.algebra.specs.Patterns.{with_value, terms, assignments}
use Rattle.algebra.specs.Order.{Ascending}
use Rattle.algebra.proofs.Lists.{all-weaker, all-flat_map}
use Rattle.algebra.proofs.Members.{Member, has_from_member, member-flat_map}
use Rattle.algebra.proofs.Ranges.{all-range, member-range}
use Rattle.algebra.proofs.Rows.{value-with_same, value-with_other, length-with_value, inside_from_value}
use Rattle.algebra.proofs.Rows.{row_from_values}

-- the variables ascend, and each is inside a row of length n
abbrev pub Rising : ℕ → List ℕ → Type 0
Rising n vs = AllByRecursion (λ v. v < n) vs × Ascending (λ v w. v < w) vs

-- s gives each variable of vs a term from 1 to top, and is like r elsewhere
pub record Fills (top : ℕ) (vs : List ℕ) (r s : Row) : Type 0 where
  pub long : length s ≡ length r
  pub given : (v : ℕ) → Member v vs → Term top (value s v)
  pub kept : (v : ℕ) → (Member v vs → ⊥) → value s v ≡ value r v

-- Rising

-- a variable that comes before all of vs is not one of them
pub other_from_below : (v : ℕ) (vs : List ℕ) → AllByRecursion (λ w. v < w) vs → Member v vs → ⊥
other_from_below v vs below h = let l = has_from_member (λ w. v < w) v vs below h in omega (arith, l)

pub rising-rest : (r : Row) (v x : ℕ) (vs : List ℕ) → Rising (length r) (v ∷ vs)
    → Rising (length (with_value r v x)) vs
rising-rest r v x vs h = subst (λ n. Rising n vs) (sym (length-with_value r v x)) (h.0.1, h.1.1)

-- terms

pub all-terms : (top : ℕ) → AllByRecursion (Term top) (terms top)
all-terms top =
    all-weaker (λ x. (1 ≤ x) × (x < 1 + top)) (Term top)
    (λ x h. record { positive = h.0; small = omega (arith, h.1) }) (terms top) (all-range 1 top)

-- assignments

-- with a term at v, the later variables are to be filled
fills_from_rest : (top v x : ℕ) (vs : List ℕ) (r s : Row) → Rising (length r) (v ∷ vs) → Term top x
    → Fills top vs (with_value r v x) s → Fills top (v ∷ vs) r s
fills_from_rest top v x vs r s rising t f = record {
  long = f.long ∙ length-with_value r v x;
  given = λ w h. ⊎_elim
      (λ e. let own = f.kept v (other_from_below v vs rising.1.0) ∙ value-with_same r v x rising.0.0 in
      subst (Term top) (sym (ap (value s) e ∙ own)) t)
      (f.given w) h;
  kept = λ w h. f.kept w (λ k. h (inr k)) ∙ value-with_other r v x w (λ e. h (inl e));
}

pub all-assignments : (top : ℕ) (vs : List ℕ) (r : Row) → Rising (length r) vs
    → AllByRecursion (Fills top vs r) (assignments top vs r)
all-assignments top [] r rising = (record { long = refl; given = λ v h. absurd h; kept = λ v _. refl }, tt)
all-assignments top (v ∷ vs) r rising =
    all-flat_map (Fills top (v ∷ vs) r) (λ x. assignments top vs (with_value r v x)) (terms top)
    (all-weaker (Term top)
    (λ x. AllByRecursion (Fills top (v ∷ vs) r) (assignments top vs (with_value r v x)))
    (λ x t. all-weaker (Fills top vs (with_value r v x)) (Fills top (v ∷ vs) r)
    (λ s f. fills_from_rest top v x vs r s rising t f) (assignments top vs (with_value r v x))
    (all-assignments top vs (with_value r v x) (rising-rest r v x vs rising)))
    (terms top) (all-terms top))

-- what fills v and the later variables fills the later ones, once r has its value for v
fills-rest : (top v : ℕ) (vs : List ℕ) (r s : Row) → Fills top (v ∷ vs) r s
    → Fills top vs (with_value r v (value s v)) s
fills-rest top v vs r s f =
    let inside = inside_from_value s v ((f.given v (inl refl)).positive) in
    record {
      long = f.long ∙ sym (length-with_value r v (value s v));
      given = λ w h. f.given w (inr h);
      kept = λ w h. ⊎_elim
          (λ e. ap (value s) e ∙ sym (value-with_same r v (value s v) (subst (λ n. v < n) f.long inside))
          ∙ ap (value (with_value r v (value s v))) (sym e))
          (λ ne. f.kept w (⊎_elim ne h) ∙ sym (value-with_other r v (value s v) w ne))
          (cases_eq w v);
    }

-- every row that fills is one of the assignments
pub member-assignments : (top : ℕ) (vs : List ℕ) (r s : Row) → Fills top vs r s
    → Member s (assignments top vs r)
member-assignments top [] r s f = inl (row_from_values s r f.long (λ v. f.kept v (λ never. never)))
member-assignments top (v ∷ vs) r s f =
    let t = f.given v (inl refl) in
    member-flat_map (λ x. assignments top vs (with_value r v x)) s (value s v) (terms top)
    (member-range first_term top (value s v) t.positive (omega (arith, t.small)))
    (member-assignments top vs (with_value r v (value s v)) s (fills-rest top v vs r s f))
