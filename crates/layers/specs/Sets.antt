-- Lists of triples in which no triple stands twice. Assumes nothing.
use Rattle.std.specs.Prelude.{◌≡◌, ℕ, ◌+◌, ◌≤◌, Bool, true, false, not, ◌&&◌, List, length, count_by}
use Rattle.triples.specs.declared.triple.Triple.{Triple}
use Rattle.triples.specs.Meaning.{among}
use Rattle.triples.specs.Order.{same}

-- the most triples that can be withdrawn at a time
abbrev pub most_withdrawn : ℕ
most_withdrawn = 256

-- how often t stands in the list
abbrev pub occurrences : List Triple → Triple → ℕ
occurrences xs t = count_by (λ x. same x t) xs

-- no triple stands in the list twice
abbrev pub Once : List Triple → Type 0
Once xs = (t : Triple) → occurrences xs t ≤ 1

-- t stood in the list, and ys has the others, one triple fewer; or it did not, and ys is the list
abbrev pub Removed : List Triple → Triple → Bool → List Triple → Type 0
Removed xs t true ys =
    (among xs t ≡ true)
    × ((u : Triple) → among ys u ≡ (among xs u && not (same t u)))
    × (length ys + 1 ≡ length xs)
Removed xs t false ys = (among xs t ≡ false) × (ys ≡ xs)
