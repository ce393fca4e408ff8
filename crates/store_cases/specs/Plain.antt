-- Which triples and numbers of a plain list are looked for. Assumes nothing.
use Rattle.std.specs.Prelude.{ℕ, Bool, cond, not, ◌&&◌, nat_le, Option, None, Some}
use Rattle.triples.specs.declared.position.Position.{Position}
use Rattle.triples.specs.Order.{before, value_at}
use Rattle.triples.specs.Selectors.{matches}
use Rattle.store_cases.specs.Numbers.{triple_from, selector_from}

-- the numbers t are those of a triple that the selector s matches
abbrev pub matched : ℕ × ℕ × ℕ → ℕ × ℕ × ℕ → Bool
matched s t = matches (selector_from s) (triple_from t)

-- t comes before u
abbrev pub below : ℕ × ℕ × ℕ → ℕ × ℕ × ℕ → Bool
below t u = before (triple_from t) (triple_from u)

-- the selector s matches t, and t is not below start
abbrev pub reaches : ℕ × ℕ × ℕ → ℕ × ℕ × ℕ → ℕ × ℕ × ℕ → Bool
reaches s start t = matched s t && not (below t start)

-- the one of t and u that comes before the other; t, where neither does
abbrev pub lesser : ℕ × ℕ × ℕ → ℕ × ℕ × ℕ → ℕ × ℕ × ℕ
lesser t u = cond (below u t) u t

-- the lesser of the best so far, if there is one, and t
abbrev pub with_one_more : Option (ℕ × ℕ × ℕ) → ℕ × ℕ × ℕ → Option (ℕ × ℕ × ℕ)
with_one_more None t = Some t
with_one_more (Some best) t = Some (lesser best t)

-- the number of t at the position
abbrev pub number_of : Position → ℕ × ℕ × ℕ → ℕ
number_of position t = value_at position (triple_from t)

-- n is not below the bound
abbrev pub from : ℕ → ℕ → Bool
from bound n = nat_le bound n
