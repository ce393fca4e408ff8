-- What tables and the layers over them keep is all that they are. Assumes nothing.
use Rattle.std.proofs.Common.{◌≡◌, refl, ap, subst₂}
use Rattle.triples.specs.Meaning.{Meaning}
use Rattle.triples.specs.declared.property_store.PropertyStore.{PropertyStore}
use Rattle.triples.specs.declared.row_store.RowStore.{RowStore}
use Rattle.layers.specs.declared.inverse.Inverse as inverses
use Rattle.layers.specs.declared.triple_set.TripleSet.{TripleSet}
use Rattle.layers.specs.declared.turn.Turn.{Turn}
use Rattle.layers.specs.declared.withdrawn.Withdrawn as layers
use Rattle.feedtrace.specs.declared.either.Either.TheVariants.{Left, Right}
use Rattle.feedtrace.specs.Eithers.{KeptOf, either_kept}
use Rattle.feedtrace.specs.Layerings.{Inverted, Layered, inverted_meaning}
use Rattle.feedtrace.specs.Tables.{Table, table_meaning}

-- what f tells alike of two is one
abbrev Telling : {A K : Type 0} → (A → K) → Type 0
Telling {A} f = (x y : A) → f x ≡ f y → x ≡ y

either_telling : {A B K L : Type 0} (f : A → K) (g : B → L) → Telling f → Telling g
    → Telling (either_kept f g)
either_telling f g left right (Left a) (Left b) e = ap Left (left a b cc)
either_telling f g left right (Left a) (Right b) e = cc
either_telling f g left right (Right a) (Left b) e = cc
either_telling f g left right (Right a) (Right b) e = ap Right (right a b cc)

-- what a table keeps
abbrev table_kept : Table → KeptOf RowStore PropertyStore
table_kept = either_kept (λ s. s) (λ s. s)

pub table_telling : Telling table_kept
table_telling = either_telling (λ s. s) (λ s. s) (λ x y e. e) (λ x y e. e)

-- what an inverse layer over a table keeps
abbrev inverse_kept : inverses.Inverse Table → Meaning × KeptOf RowStore PropertyStore × Turn
inverse_kept s = (table_meaning s.below, table_kept s.below, s.turn)

inverse_telling : Telling inverse_kept
inverse_telling x y e =
    subst₂ (λ (b : Table) (t : Turn). x ≡ record { below = b; turn = t })
    (table_telling x.below y.below (ap (λ k. k.1) e)) (ap (λ k. k.2) e) refl

-- what a table keeps, or an inverse layer over one
abbrev inverted_kept : Inverted
    → KeptOf (KeptOf RowStore PropertyStore) (Meaning × KeptOf RowStore PropertyStore × Turn)
inverted_kept = either_kept table_kept inverse_kept

pub inverted_telling : Telling inverted_kept
inverted_telling = either_telling table_kept inverse_kept table_telling inverse_telling

-- what a withdrawn layer over such a one keeps
abbrev withdrawn_kept : layers.Withdrawn Inverted
    → Meaning × KeptOf (KeptOf RowStore PropertyStore) (Meaning × KeptOf RowStore PropertyStore × Turn)
    × TripleSet
withdrawn_kept s = (inverted_meaning s.below, inverted_kept s.below, s.gone)

withdrawn_telling : Telling withdrawn_kept
withdrawn_telling x y e =
    subst₂ (λ (b : Inverted) (g : TripleSet). x ≡ record { below = b; gone = g })
    (inverted_telling x.below y.below (ap (λ k. k.1) e)) (ap (λ k. k.2) e) refl

-- the current store is what it keeps
pub layered_telling : Telling {A = Layered} (either_kept inverted_kept withdrawn_kept)
layered_telling = either_telling inverted_kept withdrawn_kept inverted_telling withdrawn_telling
