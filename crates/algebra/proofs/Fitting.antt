-- The rows that a part fits, among the completions of a row: what holds of all of them, and which they are.
-- Assumes nothing.
use Rattle.std.proofs.Common.{◌≡◌, ℕ, Bool, List, [], ◌∷◌, length, ◌⊎◌, ⊎_elim, inl, inr, refl}
use Rattle.std.specs.List.{filter, AllByRecursion}
use Rattle.catalogue.specs.Entries.{Entry}
use Rattle.query.specs.declared.pattern.TriplePattern.{TriplePattern}
use Rattle.query.specs.Limits.{variables}
use Rattle.query.specs.Parts.{Part}
use Rattle.triples.specs.Meaning.{Meaning}
use Rattle.filter.specs.Rows.{Row}
use Rattle.filter.specs.Filters.{passes}
use Rattle.algebra.specs.Patterns.{stored, Stored, completions, open_variables}
use Rattle.algebra.specs.Admissions.{Completes}
use Rattle.algebra.specs.Order.{Ascending}
use Rattle.algebra.specs.Words.{Fits}
use Rattle.algebra.proofs.Lists.{all-filter}
use Rattle.algebra.proofs.Members.{Member, has_from_member, member-filter, member_from_filter}
use Rattle.algebra.proofs.Ascents.{ascending-filter}
use Rattle.algebra.proofs.Patterns.{all_from_stored, stored_from_all}
use Rattle.algebra.proofs.Lexical.{Less}
use Rattle.algebra.proofs.Completions.{ascending-completions, all-completions, member-completions}
use Rattle.algebra.proofs.Listing.{fitting, or_itself}

-- All, Ascending

pub all-fitting : (P : Row → Type 0) (m : Meaning) (test : Row → Bool) (ts : List TriplePattern) (r : Row)
    → AllByRecursion P (completions m.top ts r) → AllByRecursion P (fitting m test ts r)
all-fitting P m test ts r h =
    all-filter P test (filter (stored m ts) (completions m.top ts r))
    (all-filter P (stored m ts) (completions m.top ts r) h)

pub ascending-stored : (m : Meaning) (ts : List TriplePattern) (r : Row) → length r ≡ variables
    → Ascending (Less (open_variables ts r)) (filter (stored m ts) (completions m.top ts r))
ascending-stored m ts r long =
    ascending-filter (Less (open_variables ts r)) (stored m ts) (completions m.top ts r)
    (ascending-completions m.top ts r long)

pub ascending-fitting : (m : Meaning) (test : Row → Bool) (ts : List TriplePattern) (r : Row)
    → length r ≡ variables → Ascending (Less (open_variables ts r)) (fitting m test ts r)
ascending-fitting m test ts r long =
    ascending-filter (Less (open_variables ts r)) test (filter (stored m ts) (completions m.top ts r))
    (ascending-stored m ts r long)

pub all-or_itself : (P : Row → Type 0) (r : Row) (rows : List Row) → P r → AllByRecursion P rows
    → AllByRecursion P (or_itself r rows)
all-or_itself P r [] h k = (h, tt)
all-or_itself P r (s ∷ rows) h k = k

-- completions that are in the store; with the row without values, the solutions of a basic graph pattern

module _ (m : Meaning) (ts : List TriplePattern) (r s : Row) where
  pub completes_from_stored : length r ≡ variables → Member s (filter (stored m ts) (completions m.top ts r))
      → Completes m.top ts r s × Stored m ts s
  completes_from_stored long h =
      let (there, held) = member_from_filter (stored m ts) s (completions m.top ts r) h in
      let all = all-completions m.top ts r long in (
        has_from_member (Completes m.top ts r) s (completions m.top ts r) all there,
        all_from_stored m ts s held,
      )

  pub member-stored : Completes m.top ts r s → Stored m ts s
      → Member s (filter (stored m ts) (completions m.top ts r))
  member-stored c held =
      member-filter (stored m ts) s (completions m.top ts r) (stored_from_all m ts s held)
      (member-completions m.top ts r s c)

-- fitting

module _ (m : Meaning) (e : ℕ → Entry) (b : Part) (r s : Row) where
  pub fits_from_member : length r ≡ variables → Member s (fitting m (passes e b.filter) b.triples r)
      → Completes m.top b.triples r s × Fits m e b s
  fits_from_member long h =
      let (there, true_on) = member_from_filter (passes e b.filter) s
      (filter (stored m b.triples) (completions m.top b.triples r)) h in
      let (completes, held) = completes_from_stored m b.triples r s long there in
      (completes, record { triples = held; filter = true_on })

  pub member-fitting : Completes m.top b.triples r s → Fits m e b s
      → Member s (fitting m (passes e b.filter) b.triples r)
  member-fitting c fits =
      member-filter (passes e b.filter) s (filter (stored m b.triples) (completions m.top b.triples r))
      fits.filter (member-stored m b.triples r s c fits.triples)

-- or_itself

pub member_from_or_itself : (s t : Row) (rows : List Row) → Member t (or_itself s rows)
    → Member t rows ⊎ ((t ≡ s) × (rows ≡ []))
member_from_or_itself s t [] h = ⊎_elim (λ e. inr (e, refl)) (λ never. absurd never) h
member_from_or_itself s t (u ∷ rows) h = inl h

pub member-or_itself : (s t : Row) (rows : List Row) → Member t rows → Member t (or_itself s rows)
member-or_itself s t [] h = absurd h
member-or_itself s t (u ∷ rows) h = h

pub member-or_itself_none : (s t : Row) (rows : List Row) → t ≡ s → rows ≡ [] → Member t (or_itself s rows)
member-or_itself_none s t [] same none_there = inl same
member-or_itself_none s t (u ∷ rows) same none_there = cc
