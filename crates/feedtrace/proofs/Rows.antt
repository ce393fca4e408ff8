-- What a reader of a row's values, one after the other, keeps. Assumes nothing.
use Rattle.std.proofs.Common.{◌≡◌, ℕ, suc, ◌+◌, ◌-◌, ◌<◌, ◌≤◌, List, ◌∷◌, [], ◌++◌, length, set, take}
use Rattle.std.proofs.Common.{Some, None, Option, refl, sym, ap, ◌∙◌, append_assoc, append-nil, length-set}
use Rattle.std.proofs.Common.{arith}
use Rattle.std.proofs.lemmas.Grind.{take-set_at}
use Rattle.std.proofs.lemmas.List.{take_all}
use Rattle.feedtrace.specs.Fields.{◌>>=◌, first_number, first_numbers, first_row}

-- xs before the numbers that are given
abbrev onto : List ℕ → Option (List ℕ × List ℕ) → Option (List ℕ × List ℕ)
onto xs m = m >>= (λ vs. Some (xs ++ vs.0, vs.1))

-- the n numbers behind the one that is given, if there is one
abbrev behind_one : ℕ → Option (ℕ × List ℕ) → Option (List ℕ × List ℕ)
behind_one n m = m >>= (λ v. first_numbers n v.1 >>= (λ vs. Some (v.0 ∷ vs.0, vs.1)))

onto-nil : (m : Option (List ℕ × List ℕ)) → onto [] m ≡ m
onto-nil None = refl
onto-nil (Some vs) = refl

onto-more : (xs : List ℕ) (v : ℕ) (m : Option (List ℕ × List ℕ))
    → onto xs (m >>= (λ vs. Some (v ∷ vs.0, vs.1))) ≡ onto (xs ++ v ∷ []) m
onto-more xs v None = refl
onto-more xs v (Some vs) = ap (λ ys. Some (ys, vs.1)) (sym (append_assoc xs (v ∷ []) vs.0))

-- the values of row before the index i are read of text, and as many are still to be read of rest as row has
-- places from i on
pub record Reading (text row : List ℕ) (i : ℕ) (rest : List ℕ) : Type 0 where
  pub long : length row ≡ 16
  pub left : first_row text ≡ onto (take i row) (first_numbers (16 - i) rest)

pub reading_begun : (text row : List ℕ) → length row ≡ 16 → Reading text row 0 text
unfolding first_row
reading_begun text row long = record { long = long; left = sym (onto-nil (first_numbers 16 text)) }

module _ {text row rest : List ℕ} {i : ℕ} (reading : Reading text row i rest) where
  -- one number more is to be read than behind it
  next_left : i < 16
      → first_row text ≡ onto (take i row) (behind_one (16 - (i + 1)) (first_number rest))
  next_left less =
      let one : 16 - i ≡ suc (16 - (i + 1)) = omega arith in
      reading.left ∙ ap (λ n. onto (take i row) (first_numbers n rest)) one

  -- where no number stands first in the rest, no row does in the text
  pub reading_stopped : i < 16 → first_number rest ≡ None → first_row text ≡ None
  reading_stopped less none =
      next_left less ∙ ap (λ m. onto (take i row) (behind_one (16 - (i + 1)) m)) none

  -- the number that stands first in the rest is the next value
  pub reading_more : (v : ℕ) (next : List ℕ) → i < 16 → first_number rest ≡ Some (v, next)
      → Reading text (set row i v) (i + 1) next
  reading_more v next less some =
      let others = first_numbers (16 - (i + 1)) next in
      record {
        long = length-set row i v ∙ reading.long;
        left = next_left less ∙ ap (λ m. onto (take i row) (behind_one (16 - (i + 1)) m)) some
            ∙ onto-more (take i row) v others
            ∙ ap (λ xs. onto xs others)
            (sym (take-set_at row i (i + 1) v refl (omega (arith, reading.long))));
      }

  -- behind the last value the row is read
  pub reading_ended : 16 ≤ i → first_row text ≡ Some (row, rest)
  reading_ended all =
      let none : 16 - i ≡ 0 = omega arith in
      reading.left ∙ ap (λ n. onto (take i row) (first_numbers n rest)) none
      ∙ ap (λ xs. Some (xs, rest)) (append-nil (take i row) ∙ take_all i row (omega (arith, reading.long)))
