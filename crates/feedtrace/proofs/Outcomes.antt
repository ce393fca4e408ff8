-- Laws of writing the lines of a list: f, g and h are one formatter at three times. Assumes nothing.
use Rattle.std.proofs.Common.{◌≡◌, ℕ, ◌+◌, ◌<◌, ◌≤◌, List, [], ◌∷◌, ◌++◌, length, get_or, take}
use Rattle.std.proofs.Common.{sym, ap, ◌∙◌}
use Rattle.std.proofs.Output.{has_written_append, has_written_of_eq}
use Rattle.std.proofs.lemmas.List.{flat_map_more, take_all, take_more}
use Rattle.std.specs.Fmt.{HasWritten}
use Rattle.std.specs.declared.fmt.Formatter.{Formatter}
use Rattle.console.specs.Answers.{newline}
use Rattle.feedtrace.specs.Outcomes.{count_text, lines_text, listing_text}

-- lines

lines_text_more : {A : Type 0} (text : A → List ℕ) (xs : List A) (i : ℕ) (x : A) → i < length xs
    → x ≡ get_or xs i x
    → lines_text text (take i xs) ++ (text x ++ newline ∷ []) ≡ lines_text text (take (i + 1) xs)
lines_text_more text xs i x h is =
    flat_map_more (λ y. text y ++ newline ∷ []) [] (take i xs) x
    ∙ ap (λ y. lines_text text (take i xs ++ y ∷ [])) is
    ∙ sym (ap (lines_text text) (take_more xs i x h))

-- formatters

module _ {A W : Type 0} (took : W → List ℕ → W → Type 0) (f g h : Formatter W) (text : A → List ℕ)
    (xs : List A) (i : ℕ) where
  -- the lines of the items before i, and then that of the item at i
  pub put_line : (x : A) → i < length xs → x ≡ get_or xs i x
      → HasWritten took f (lines_text text (take i xs)) g → HasWritten took g (text x ++ newline ∷ []) h
      → HasWritten took f (lines_text text (take (i + 1) xs)) h
  put_line x less is before line =
      has_written_of_eq took f _ _ h (lines_text_more text xs i x less is)
      (has_written_append took f _ g _ h before line)

  -- the lines of all items, and then the count
  pub put_count : (what : List ℕ) → length xs ≤ i
      → HasWritten took f (lines_text text (take i xs)) g → HasWritten took g (count_text xs what) h
      → HasWritten took f (listing_text text xs what) h
  put_count what all before count =
      has_written_of_eq took f _ _ h (ap (λ ys. lines_text text ys ++ count_text xs what) (take_all i xs all))
      (has_written_append took f _ g _ h before count)
