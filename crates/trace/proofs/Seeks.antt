-- What seek answers holds for each store that means the same. Assumes nothing.
use Rattle.std.proofs.Common.{◌≡◌, subst₂}
use Rattle.triples.specs.declared.selector.Selector.{Selector}
use Rattle.triples.specs.declared.triple.Triple.{Triple}
use Rattle.triples.specs.Meaning.{Meaning}
use Rattle.triples.specs.Seeks.{Candidate, Least}

module _ {m n : Meaning} {a b : Selector} {start : Triple} (same : m ≡ n) (of : a ≡ b) where
  pub least_of : {t : Triple} → Least m.has a start t → Least n.has b start t
  least_of {t = t} = subst₂ (λ (k : Meaning) s. Least k.has s start t) same of

  pub none_of : ((t : Triple) → Candidate m.has a start t → ⊥)
      → (t : Triple) → Candidate n.has b start t → ⊥
  none_of = subst₂ (λ (k : Meaning) s. (t : Triple) → Candidate k.has s start t → ⊥) same of
