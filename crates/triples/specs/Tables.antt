-- Lists of elements that stand for triples. Assumes nothing.
use Rattle.std.specs.Prelude.{◌≡◌, ℕ, ◌+◌, ◌-◌, ◌<◌, Bool, true, false, ◌&&◌, List, length, slice_index_or}
use Rattle.triples.specs.declared.pair.Pair.{Pair}
use Rattle.triples.specs.declared.triple.Triple.{Triple}
use Rattle.triples.specs.Order.{before}
use Rattle.triples.specs.Meaning.{term}

-- each number of t is from 1 to top
abbrev pub triple_good : ℕ → Triple → Bool
triple_good top t = term top t.subject && (term top t.property && term top t.object)

-- both numbers of the pair are from 1 to top
abbrev pub pair_good : ℕ → Pair → Bool
pair_good top x = term top x.subject && term top x.object

-- the triple of the pair under the property
abbrev pub triple_of : ℕ → Pair → Triple
triple_of property x = record { subject = x.subject; property = property; object = x.object }

-- a triple stands for itself
abbrev pub itself : Triple → Triple
itself t = t

-- the triples that the elements stand for ascend strictly
abbrev pub Ordered : {X : Type 0} → (X → Triple) → List X → Type 0
Ordered {X} triple xs =
    (k : ℕ) (d : X) → k + 1 < length xs
    → before (triple (slice_index_or xs k d)) (triple (slice_index_or xs (k + 1) d)) ≡ true

-- the triple at i is not above the one before it
pub record NotAbove {X : Type 0} (triple : X → Triple) (xs : List X) (i : ℕ) : Type 0 where
  pub later : 0 < i
  pub inside : i < length xs
  pub unless : (d : X)
      → before (triple (slice_index_or xs (i - 1) d)) (triple (slice_index_or xs i d)) ≡ false

-- every element passes the test
abbrev pub AllGood : {X : Type 0} → (X → Bool) → List X → Type 0
AllGood {X} good xs = (k : ℕ) (d : X) → k < length xs → good (slice_index_or xs k d) ≡ true

-- the element at i fails the test, and those before it pass
pub record FirstBad {X : Type 0} (good : X → Bool) (xs : List X) (i : ℕ) : Type 0 where
  pub inside : i < length xs
  pub bad : (d : X) → good (slice_index_or xs i d) ≡ false
  pub earlier : (k : ℕ) (d : X) → k < i → good (slice_index_or xs k d) ≡ true
