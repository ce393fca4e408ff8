-- A query's answers said without the algebra, part by part. Assumes nothing.
--     upto g p r                the row r with the values of the parts up to p alone
--     Answered m e g r          r is an answer of the alternative g
use Rattle.std.specs.Prelude.{◌≡◌, ℕ, ◌+◌, ◌<◌, Bool, true, false, cond, ◌⊎◌, map, length, Some}
use Rattle.std.specs.Prelude.{[], None, Option, nat_le, slice_index_or, ◌≢◌}
use Rattle.catalogue.specs.Entries.{Entry}
use Rattle.query.specs.Limits.{variables}
use Rattle.query.specs.Parts.{Part, Group}
use Rattle.triples.specs.Meaning.{Meaning, Term}
use Rattle.filter.specs.Rows.{Row, none, value}
use Rattle.filter.specs.Filters.{passes}
use Rattle.algebra.specs.Patterns.{Stored, all_variables}
use Rattle.algebra.specs.Order.{first_part}

-- the part, if it is one, is not above p
abbrev pub reached : ℕ → Option ℕ → Bool
reached p None = false
reached p (Some k) = nat_le k p

-- r without the values of variables that belong to parts above p, or to none
abbrev pub upto : Group → ℕ → Row → Row
upto g p r = map (λ v. cond (reached p (first_part g v)) (value r v) none) all_variables

-- the row has the block's triples in the store, and its filter is true on it
pub record Fits (m : Meaning) (e : ℕ → Entry) (b : Part) (r : Row) : Type 0 where
  pub triples : Stored m b.triples r
  pub filter : passes e b.filter r ≡ true

-- every variable that belongs to part p has a value from 1 to the top, and with the values of the parts up to
-- p the block fits
pub record Extended (m : Meaning) (e : ℕ → Entry) (g : Group) (p : ℕ) (b : Part) (r : Row) : Type 0 where
  pub values : (v : ℕ) → first_part g v ≡ Some p → Term m.top (value r v)
  pub fits : Fits m e b (upto g p r)

-- s is r with the values of the parts up to p alone, but for the variables that belong to part p: to those it
-- gives values from 1 to the top, whatever r gives them
pub record FillsOwn (top : ℕ) (g : Group) (p : ℕ) (r s : Row) : Type 0 where
  pub long : length s ≡ variables
  pub own : (v : ℕ) → first_part g v ≡ Some p → Term top (value s v)
  pub others : (v : ℕ) → first_part g v ≢ Some p → value s v ≡ value (upto g p r) v

-- no variable that belongs to part p has a value, and no values from 1 to the top for them make the block fit
pub record LeftOut (m : Meaning) (e : ℕ → Entry) (g : Group) (p : ℕ) (b : Part) (r : Row) : Type 0 where
  pub valueless : (v : ℕ) → first_part g v ≡ Some p → value r v ≡ none
  pub nothing : (s : Row) → FillsOwn m.top g p r s → Fits m e b s → ⊥

-- the block without triples, read where there is none
abbrev pub no_part : Part
no_part = record { triples = []; filter = [] }

-- r is an answer of the alternative g
pub record Answered (m : Meaning) (e : ℕ → Entry) (g : Group) (r : Row) : Type 0 where
  pub long : length r ≡ variables
  pub required : Stored m g.required r
  pub blocks : (i : ℕ) → i < length g.blocks
      → Extended m e g (i + 1) (slice_index_or g.blocks i no_part) r
      ⊎ LeftOut m e g (i + 1) (slice_index_or g.blocks i no_part) r
  pub others : (v : ℕ) → first_part g v ≡ None → value r v ≡ none
  pub filter : passes e g.filter r ≡ true
