-- What a store stands for. Assumes nothing.
--     Term top n     n is a term: from 1 to top; 0 is none
--     Terms top t    t has a term at each position
use Rattle.std.specs.Prelude.{◌≡◌, ℕ, ◌≤◌, Bool, true, false, cond, ◌&&◌, ◌||◌, List, [], ◌∷◌, nat_le, nat_lt}
use Rattle.triples.specs.declared.triple.Triple.{Triple}
use Rattle.triples.specs.Order.{same}

-- the largest top of a store
abbrev pub largest_top : ℕ
largest_top = 1000000

-- the least term
abbrev pub first_term : ℕ
first_term = 1

-- n is from 1 to top
abbrev pub term : ℕ → ℕ → Bool
term top n = nat_le first_term n && nat_le n top

-- the least term from the bound on
abbrev pub least_term : ℕ → ℕ
least_term bound = cond (nat_lt bound first_term) first_term bound

-- a top, and which triples there are
pub record Meaning : Type 0 where
  pub top : ℕ
  pub has : Triple → Bool

-- n is from 1 to top
pub record Term (top n : ℕ) : Type 0 where
  pub positive : first_term ≤ n
  pub small : n ≤ top

-- each number of t is from 1 to top
pub record Terms (top : ℕ) (t : Triple) : Type 0 where
  pub subject : Term top t.subject
  pub property : Term top t.property
  pub object : Term top t.object

-- the top is at most 1,000,000, and every triple of m is made of terms
pub record Sound (m : Meaning) : Type 0 where
  pub small : m.top ≤ largest_top
  pub terms : (t : Triple) → m.has t ≡ true → Terms m.top t

-- t is an element of the list
abbrev pub among : List Triple → Triple → Bool
among [] t = false
among (x ∷ xs) t = same x t || among xs t

-- a top, and the triples of the list
abbrev pub listed : ℕ → List Triple → Meaning
listed top ts = record { top = top; has = among ts }
