-- How two terms compare, each with what the catalogue says of it. Assumes nothing.
use Rattle.std.specs.Prelude.{ℕ, Bool, ℤ, Some, None, Option, ◌==◌, int_lt}
use Rattle.std.specs.Ordering.{int_eq}
use Rattle.catalogue.specs.Entries.{Entry, integer_of}
use Rattle.filter.specs.declared.truth.Truth.{Truth}
use Rattle.filter.specs.declared.truth.Truth.TheVariants.{Error}
use Rattle.filter.specs.Truths.{truth_of}

-- a term, and what the catalogue says of it
pub record Known : Type 0 where
  pub number : ℕ
  pub entry : Entry

-- two integers by the test; where one is none, what is said for that
abbrev pub by_integers : (ℤ → ℤ → Bool) → Truth → Option ℤ → Option ℤ → Truth
by_integers test other (Some i) (Some j) = truth_of (test i j)
by_integers test other (Some i) None = other
by_integers test other None _ = other

-- two integers are equal if their values are, any other two terms if they are the same number
abbrev pub equal : Known → Known → Truth
equal a b =
    by_integers int_eq (truth_of (a.number == b.number)) (integer_of a.entry) (integer_of b.entry)

-- of two integers the one with the smaller value is less; any other two terms do not compare
abbrev pub less : Known → Known → Truth
less a b = by_integers int_lt Error (integer_of a.entry) (integer_of b.entry)
