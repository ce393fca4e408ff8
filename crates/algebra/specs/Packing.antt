-- An answer as bytes: its alternative, which variables have values, and these values. Assumes nothing.
--     packed a              the bytes of the answer
--     unpacked bytes        the answer that the bytes say, number by number as the number format reads them
--     Bounded high top a    the answer has sixteen values, and its numbers are so small
--     most_packed           the most bytes that an answer of a query takes
use Rattle.std.specs.Prelude.{ℕ, ◌+◌, ◌-◌, ◌*◌, ◌/◌, ◌%◌, ◌^◌, ◌≤◌, Bool, cond, List, [], ◌∷◌, ◌++◌}
use Rattle.std.specs.Prelude.{map, ◌==◌, Some, None, Option}
use Rattle.std.specs.List.{filter, flat_map}
use Rattle.varint.specs.Encode.{encode}
use Rattle.query.specs.Lawful.{total}
use Rattle.query.specs.Limits.{variables, most_alternatives}
use Rattle.query.specs.Readers.{Read, took, refused, Reader, number, both}
use Rattle.filter.specs.Rows.{Row, none, value, has_value}
use Rattle.algebra.specs.Patterns.{Valid, all_variables}
use Rattle.algebra.specs.Answers.{Answer}

-- the number in which bit v, worth 2 to the power v, is set exactly if variable v has a value
abbrev pub mask : Row → ℕ
mask r = total (λ v. cond (has_value r v) (2 ^ v) 0) all_variables

-- the values that there are, in the order of the variables
abbrev pub values : Row → List ℕ
values r = map (value r) (filter (has_value r) all_variables)

-- the alternative, the mask and the values as numbers in seven-bit groups
abbrev pub packed : Answer → List ℕ
packed a = encode a.alternative ++ (encode (mask a.row) ++ flat_map encode (values a.row))

-- bit v of the number is 1
abbrev pub bit : ℕ → ℕ → Bool
bit n v = n / 2 ^ v % 2 == 1

-- for each of these variables, ascending, the next number as its value if its bit in the mask is 1, and no
-- value if it is 0
abbrev pub read_values : ℕ → List ℕ → Reader Row
read_values n [] at bytes = took [] at bytes
read_values n (v ∷ vs) at bytes =
    both (cond (bit n v) number (took none)) (λ _. read_values n vs) ◌∷◌ at bytes

-- a mask, and the values of the sixteen variables that it says
abbrev pub read_row : Reader Row
read_row = both number (λ n. read_values n all_variables) (λ _ r. r)

-- an alternative, and a row
abbrev pub read_answer : Reader Answer
read_answer = both number (λ _. read_row) (λ a r. record { alternative = a; row = r })

-- what was taken, if nothing stands behind it
abbrev pub whole : {A : Type 0} → Read A → Option A
whole (took a _ []) = Some a
whole (took a _ (b ∷ bs)) = None
whole (refused _ _) = None

-- the answer that the bytes say
abbrev pub unpacked : List ℕ → Option Answer
unpacked bytes = whole (read_answer 0 bytes)

-- the number of the alternative is at most high, and the row's values are at most top
pub record Bounded (high top : ℕ) (a : Answer) : Type 0 where
  pub numbered : a.alternative ≤ high
  pub row : Valid top a.row

-- the highest number of an alternative of a query
abbrev pub highest_alternative : ℕ
highest_alternative = most_alternatives - 1

-- the most bytes that an answer of a query takes: one for the alternative, three for the mask, and three for
-- each of sixteen terms
abbrev pub most_packed : ℕ
most_packed = 1 + 3 + 3 * variables
