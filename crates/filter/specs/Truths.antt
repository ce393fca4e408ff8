-- Three truth values, and what not, and, or make of them. Assumes nothing.
use Rattle.std.specs.Prelude.{ℕ, Bool, true, false, cond, List, codes}
use Rattle.filter.specs.declared.truth.Truth.{Truth}
use Rattle.filter.specs.declared.truth.Truth.TheVariants.{False, True, Error}

-- the truth of a test
abbrev pub truth_of : Bool → Truth
truth_of test = cond test True False

-- the truth is true; false and error do not pass
abbrev pub is_true : Truth → Bool
is_true True = true
is_true False = false
is_true Error = false

-- the truth as it is shown
abbrev pub name_of : Truth → List ℕ
name_of True = codes "true"
name_of False = codes "false"
name_of Error = codes "error"

-- true and false change places, an error stays
abbrev pub negated : Truth → Truth
negated True = False
negated False = True
negated Error = Error

-- and: one false makes it false; without one, an error makes it an error
abbrev pub conjunction : Truth → Truth → Truth
conjunction False False = False
conjunction False True = False
conjunction False Error = False
conjunction True False = False
conjunction True True = True
conjunction True Error = Error
conjunction Error False = False
conjunction Error True = Error
conjunction Error Error = Error

-- or: one true makes it true; without one, an error makes it an error
abbrev pub disjunction : Truth → Truth → Truth
disjunction True True = True
disjunction True False = True
disjunction True Error = True
disjunction False True = True
disjunction False False = False
disjunction False Error = Error
disjunction Error True = True
disjunction Error False = Error
disjunction Error Error = Error
