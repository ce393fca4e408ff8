-- What laying layers, withdrawing and restoring answer, and what they leave. Assumes nothing.
--     Beside s t     t has the queries, the catalogue and the table being read of s
use Rattle.std.specs.Prelude.{◌≡◌, ℕ, true, ◌&&◌, ◌⊎◌, List, [], length, Some, None, Ok, Err, MatchOption}
use Rattle.std.specs.Prelude.{Result}
use Rattle.refusal.specs.declared.refusal.Refusal.TheVariants.{PropertyOutside}
use Rattle.refusal.specs.declared.rejection.Rejection.{Rejection}
use Rattle.triples.specs.declared.triple.Triple.{Triple}
use Rattle.triples.specs.Meaning.{Meaning, term}
use Rattle.layers.specs.Inverses.{with_inverse}
use Rattle.layers.specs.Members.{members}
use Rattle.layers.specs.Withdrawals.{Withdraws, Restores}
use Rattle.layers.specs.declared.inverse.Inverse as inverses
use Rattle.layers.specs.declared.withdrawn.Withdrawn as layers
use Rattle.feedtrace.specs.declared.either.Either.TheVariants.{Left, Right}
use Rattle.feedtrace.specs.declared.expected.Expected.TheVariants as expected
use Rattle.feedtrace.specs.declared.outcome.Outcome.TheVariants as outcome
use Rattle.feedtrace.specs.declared.session.Session.{Session}
use Rattle.feedtrace.specs.Failures.{Carried, lacks, refused}
use Rattle.feedtrace.specs.Tables.{Table, table_meaning}
use Rattle.feedtrace.specs.Layerings.{Inverted, Layered, bare, inverse_meaning, inverted_meaning}

-- t has the queries, the catalogue and the table being read of s
pub record Beside (s t : Session) : Type 0 where
  pub queries : t.queries ≡ s.queries
  pub book : t.book ≡ s.book
  pub loading : t.loading ≡ s.loading

-- the store of s was changed: P holds of it, the answer and the store of t, and all else is as it was; or
-- there is no store
abbrev pub Changed : (Layered → Carried → Layered → Type 0) → Session → Carried → Session → Type 0
Changed P s r t =
    Beside s t × MatchOption s.store ((r ≡ lacks expected.Store) × (t.store ≡ None))
    (λ l. (m : Layered) × ((t.store ≡ Some m) × P l r m))

-- the two properties are terms of m
abbrev pub TermsOf : Meaning → ℕ → ℕ → Type 0
TermsOf m p q = (term m.top p && term m.top q) ≡ true

-- an inverse layer lies over the table, and means it with the inverse; or the properties are outside, and the
-- table is there as it was
abbrev pub InverseOver : ℕ → ℕ → Table → Carried → Layered → Type 0
InverseOver p q table r after =
    (TermsOf (table_meaning table) p q × (r ≡ Ok (outcome.Inverse p q))
    × ((layer : inverses.Inverse Table) × ((after ≡ Left (Right layer)) × (layer.below ≡ table)
    × (inverse_meaning layer ≡ with_inverse p q (table_meaning table)))))
    ⊎ ((TermsOf (table_meaning table) p q → ⊥)
    × (r ≡ refused (record { refusal = PropertyOutside; place = 0 }))
    × (after ≡ bare table))

-- an inverse layer goes over a table alone
abbrev pub InverseOn : ℕ → ℕ → Layered → Carried → Layered → Type 0
InverseOn p q (Left (Left table)) r after = InverseOver p q table r after
InverseOn p q (Left (Right layer)) r after =
    (r ≡ lacks expected.BareTable) × (after ≡ Left (Right layer))
InverseOn p q (Right layer) r after = (r ≡ lacks expected.BareTable) × (after ≡ Right layer)

-- a withdrawn layer goes over a table or an inverse layer, with nothing withdrawn
abbrev pub WithdrawnOn : Layered → Carried → Layered → Type 0
WithdrawnOn (Left below) r after =
    (r ≡ Ok outcome.Layered)
    × ((layer : layers.Withdrawn Inverted) × ((after ≡ Right layer)
    × ((layer.below ≡ below) × (members layer.gone ≡ []))))
WithdrawnOn (Right layer) r after = (r ≡ lacks expected.NoWithdrawnLayer) × (after ≡ Right layer)

-- the layer was asked to change what is withdrawn: P holds of the answer and of what is withdrawn then, which
-- is counted; and what is below is as it was
abbrev pub Counted : (Result (Unit {0}) Rejection → List Triple → Type 0) → layers.Withdrawn Inverted
    → Carried
    → layers.Withdrawn Inverted
    → Type 0
Counted P a r b =
    (b.below ≡ a.below)
    × (((r ≡ Ok (outcome.Withdrawn (length (members b.gone)))) × P (Ok tt) (members b.gone))
    ⊎ ((e : Rejection) × ((r ≡ refused e) × P (Err e) (members b.gone))))

-- a withdrawn layer on top was asked, and P holds of it; or none is on top
abbrev pub OnTop : (layers.Withdrawn Inverted → Carried → layers.Withdrawn Inverted → Type 0) → Layered
    → Carried
    → Layered
    → Type 0
OnTop P (Left s) r after = (r ≡ lacks expected.WithdrawnLayer) × (after ≡ Left s)
OnTop P (Right a) r after = (b : layers.Withdrawn Inverted) × ((after ≡ Right b) × P a r b)

-- withdrawing the triple from the layer on top: how many are withdrawn now, or the refusal
abbrev pub WithdrewOn : Triple → Layered → Carried → Layered → Type 0
WithdrewOn t = OnTop (λ a. Counted (Withdraws (inverted_meaning a.below) (members a.gone) t) a)

-- restoring the triple to the layer on top: how many are withdrawn now, or the refusal
abbrev pub RestoredOn : Triple → Layered → Carried → Layered → Type 0
RestoredOn t = OnTop (λ a. Counted (Restores (inverted_meaning a.below) (members a.gone) t) a)
