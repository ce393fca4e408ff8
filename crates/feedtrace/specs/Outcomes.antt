-- The text of what a task came to, without the last line's end. Assumes nothing.
use Rattle.std.specs.Prelude.{◌≡◌, ℕ, List, [], ◌∷◌, ◌++◌, length, Some, None, vec_items, codes, decimal}
use Rattle.std.specs.Prelude.{Option}
use Rattle.std.specs.List.{flat_map}
use Rattle.std.specs.Fmt.{signed_decimal}
use Rattle.triples.specs.Text.{triple_text}
use Rattle.catalogue.specs.Kinds.{name_of}
use Rattle.console.specs.Answers.{newline}
use Rattle.filter.specs.Truths as truths
use Rattle.feedtrace.specs.declared.outcome.Outcome.{Outcome}
use Rattle.feedtrace.specs.declared.outcome.Outcome.TheVariants as outcome

-- each of xs by its text, on a line of its own
abbrev pub lines_text : {A : Type 0} → (A → List ℕ) → List A → List ℕ
lines_text text xs = flat_map (λ x. text x ++ newline ∷ []) xs

-- how many of xs there are, and of what
abbrev pub count_text : {A : Type 0} → List A → List ℕ → List ℕ
count_text xs what = decimal (length xs) ++ (codes " " ++ what)

-- the lines of xs, and behind them the count
abbrev pub listing_text : {A : Type 0} → (A → List ℕ) → List A → List ℕ → List ℕ
listing_text text xs what = lines_text text xs ++ count_text xs what

-- each value shows as its text
abbrev pub ShowsAs : {A : Type 0} → (A → Option (List ℕ)) → (A → List ℕ) → Type 0
ShowsAs {A} shown text = (x : A) → shown x ≡ Some (text x)

-- the text of the outcome: one line, or the lines of what is listed and the count behind them
abbrev pub outcome_text : Outcome → List ℕ
outcome_text (outcome.Rows top triples) =
    codes "row store: top " ++ (decimal top ++ (codes ", " ++ (decimal triples ++ codes " triples")))
outcome_text (outcome.Properties top properties pairs) =
    codes "property store: top " ++ (decimal top ++ (codes ", " ++ (decimal properties
    ++ (codes " properties, " ++ (decimal pairs ++ codes " pairs")))))
outcome_text outcome.Inline = codes "catalogue: inline"
outcome_text (outcome.Listed records) = codes "catalogue: " ++ (decimal records ++ codes " records")
outcome_text (outcome.Inverse p q) = codes "inverse: " ++ (decimal p ++ (codes " " ++ decimal q))
outcome_text outcome.Layered = codes "withdrawn: none"
outcome_text (outcome.Withdrawn count) = codes "withdrawn: " ++ decimal count
outcome_text (outcome.Found (Some t)) = codes "triple " ++ triple_text t
outcome_text (outcome.Found None) = codes "none"
outcome_text (outcome.Number (Some n)) = codes "value " ++ decimal n
outcome_text (outcome.Number None) = codes "none"
outcome_text (outcome.Entry kind value) = name_of kind ++ (codes " " ++ signed_decimal value)
outcome_text (outcome.Triples v) = listing_text triple_text (vec_items v) (codes "triples")
outcome_text (outcome.Terms v) = listing_text decimal (vec_items v) (codes "terms reached")
outcome_text (outcome.Truth truth) = truths.name_of truth
