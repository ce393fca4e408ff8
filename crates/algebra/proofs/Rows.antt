-- Laws of rows: the value of a variable, a row with a value, when two rows are the same, and whether a row is
-- among rows. Assumes nothing.
use Rattle.std.proofs.Common.{◌≡◌, ℕ, ◌<◌, ◌≤◌, true, false, not, List, length, refl, sym, ap, ◌∙◌, subst}
use Rattle.std.proofs.Common.{⊎_elim, arith, Decides, eqb, ap₂, map}
use Rattle.std.proofs.lemmas.Bool.{not-false, cases_lt, eqb-true, ne_eqb, eq-eqb, and_parts}
use Rattle.std.proofs.lemmas.List.{get_or-set_same, get_or-set_other, length-set, ext_get_or, get_or_past}
use Rattle.std.proofs.lemmas.List.{length-replicate, get_or-replicate}
use Rattle.std.proofs.lemmas.List.FromFn.{get_or-map-range_with_len}
use Rattle.std.proofs.lemmas.Slice.Eq.{bytes_eq-Decides}
use Rattle.std.specs.List.{range_with_len}
use Rattle.query.specs.Limits.{variables}
use Rattle.filter.specs.Rows.{Row, none, value, has_value}
use Rattle.algebra.specs.Patterns.{blank, with_value}
use Rattle.algebra.specs.Answers.{Answer, same_row, same_answer, times}
use Rattle.algebra.proofs.Members.{Member, counted_from_member, member_from_counted}

-- value

pub value-with_same : (r : Row) (v x : ℕ) → v < length r → value (with_value r v x) v ≡ x
value-with_same r v x h = get_or-set_same r v x none h

pub value-with_other : (r : Row) (v x w : ℕ) → (w ≡ v → ⊥) → value (with_value r v x) w ≡ value r w
value-with_other r v x w h = get_or-set_other r v w x none h

pub length-with_value : (r : Row) (v x : ℕ) → length (with_value r v x) ≡ length r
length-with_value r v x = length-set r v x

pub value-past : (r : Row) (v : ℕ) → length r ≤ v → value r v ≡ 0
value-past r v h = get_or_past r v none h

-- rows of one length do not differ behind it
pub equal_past : (r s : Row) (n : ℕ) → length r ≡ n → length s ≡ n → (v : ℕ) → n ≤ v → value r v ≡ value s v
equal_past r s n h k v l = value-past r v (omega (arith, h, l)) ∙ sym (value-past s v (omega (arith, k, l)))

-- a variable that has a value is inside the row
pub inside_from_value : (r : Row) (v : ℕ) → 0 < value r v → v < length r
inside_from_value r v h =
    ⊎_elim (λ l. l) (λ g. absurd (omega (arith, h, value-past r v g))) (cases_lt v (length r))

pub value-blank : (v : ℕ) → value blank v ≡ 0
value-blank v =
    ⊎_elim (λ l. get_or-replicate variables v none none l)
    (λ g. value-past blank v (subst (λ n. n ≤ v) (sym (length-replicate variables none)) g))
    (cases_lt v variables)

-- a row said by a function of its variables
pub value-map : (f : ℕ → ℕ) (n v : ℕ) → v < n → value (map f (range_with_len 0 n)) v ≡ f v
value-map f n v low = get_or-map-range_with_len f 0 n v v none low (omega arith)

pub length-blank : length blank ≡ variables
length-blank = length-replicate variables none

-- two rows of one length with the same values are one row
pub row_from_values : (r s : Row) → length r ≡ length s → ((v : ℕ) → value r v ≡ value s v) → r ≡ s
row_from_values r s long same = ext_get_or none r s long (λ v _. same v)

-- has_value

pub none_from_has_value : (r : Row) (v : ℕ) → has_value r v ≡ false → value r v ≡ 0
none_from_has_value r v h = eqb-true (value r v) 0 (not-false (eqb (value r v) 0) h)

pub has_value-none : (r : Row) (v : ℕ) → value r v ≡ 0 → has_value r v ≡ false
has_value-none r v e = ap not (eq-eqb (value r v) 0 e)

pub has_value-some : (r : Row) (v : ℕ) → 0 < value r v → has_value r v ≡ true
has_value-some r v h = ap not (ne_eqb (value r v) 0 (λ e. omega (arith, h, e)))

-- same_row, same_answer

pub same_row_decides : (r s : Row) → Decides (same_row r s) (r ≡ s)
same_row_decides r s = bytes_eq-Decides r s

pub equal_from_same_row : (r s : Row) → same_row r s ≡ true → r ≡ s
equal_from_same_row r s = (same_row_decides r s).0

pub same_row-refl : (r : Row) → same_row r r ≡ true
same_row-refl r = (same_row_decides r r).1 refl

-- the row as an answer of alternative a
abbrev pub answer_of : ℕ → Row → Answer
answer_of a r = record { alternative = a; row = r }

pub answer_from_parts : (a b : Answer) → a.alternative ≡ b.alternative → a.row ≡ b.row → a ≡ b
answer_from_parts a b number row = ap₂ answer_of number row

pub equal_from_same_answer : (a b : Answer) → same_answer a b ≡ true → a ≡ b
equal_from_same_answer a b h =
    let (number, row) = and_parts (eqb a.alternative b.alternative) (same_row a.row b.row) h in
    answer_from_parts a b (eqb-true a.alternative b.alternative number) (equal_from_same_row a.row b.row row)

-- times

pub times_from_member : (r : Row) (rows : List Row) → Member r rows → 0 < times r rows
times_from_member r rows h = counted_from_member (same_row r) r rows h (same_row-refl r)

pub member_from_times : (r : Row) (rows : List Row) → 0 < times r rows → Member r rows
member_from_times r rows h =
    let (s, there, same) = member_from_counted (same_row r) rows h in
    subst (λ t. Member t rows) (sym (equal_from_same_row r s same)) there
