-- The two admissions that are always to be had keep the law. Assumes nothing.
--     pruners_lawful      every term, and the look-ahead, are lawful
use Rattle.std.proofs.Common.{◌≡◌, ℕ, true, List, [], ◌∷◌, refl, sym, ◌∙◌, subst, inl, inr, ⊎_elim, leb}
use Rattle.std.proofs.lemmas.Bool.{cases_Bool, and_parts, and_from, or_left, or_right, le-leb, leb-true}
use Rattle.std.proofs.lemmas.Bool.{both_ways}
use Rattle.std.proofs.Math.Bool.{or-false}
use Rattle.std.specs.List.{list_all}
use Rattle.query.specs.declared.pattern.TriplePattern.{TriplePattern}
use Rattle.query.specs.Lawful.{mentions}
use Rattle.triples.specs.Meaning.{Meaning, Term, term}
use Rattle.filter.specs.Rows.{Row}
use Rattle.algebra.specs.Patterns.{with_value, triple_under, stored, completions}
use Rattle.algebra.specs.Admissions.{Completes, possible}
use Rattle.algebra.specs.Theorems.{PrunersLawful}
use Rattle.algebra.proofs.Members.{any_from_member}
use Rattle.algebra.proofs.Patterns.{stored-same, stored_from_all, lent, length-lent, value-lent_own}
use Rattle.algebra.proofs.Patterns.{value-lent_other}
use Rattle.algebra.proofs.Completions.{member-completions}

-- the law

-- of what completes a row for a part, the values of one pattern's variables complete it for that pattern
module _ (m : Meaning) (ts : List TriplePattern) (r s : Row) (done : Completes m.top ts r s) where
  completes-lent : (t : TriplePattern) → ((v : ℕ) → mentions v (t ∷ []) ≡ true → mentions v ts ≡ true)
      → Completes m.top (t ∷ []) r (lent (t ∷ []) r s)
  completes-lent t inside = record {
    long = length-lent (t ∷ []) r s;
    given = λ v small held free. subst (Term m.top) (sym (value-lent_own (t ∷ []) r s done.long v held))
        (done.given v small (inside v held) free);
    kept = λ v h. ⊎_elim
        (λ held. value-lent_own (t ∷ []) r s done.long v held ∙ done.kept v
        (⊎_elim inl
        (⊎_elim (λ lacks. absurd (both_ways (mentions v (t ∷ [])) lacks held)) (λ some. inr (inr some))) h))
        (value-lent_other (t ∷ []) r s v)
        (cases_Bool (mentions v (t ∷ [])));
  }

  pub possible_from_stored : (t : TriplePattern)
      → ((v : ℕ) → mentions v (t ∷ []) ≡ true → mentions v ts ≡ true)
      → stored m (t ∷ []) s ≡ true → possible m r t ≡ true
  possible_from_stored t inside has =
      any_from_member (stored m (t ∷ [])) (lent (t ∷ []) r s) (completions m.top (t ∷ []) r)
      (member-completions m.top (t ∷ []) r (lent (t ∷ []) r s) (completes-lent t inside))
      (stored-same m (t ∷ []) (lent (t ∷ []) r s) s (value-lent_own (t ∷ []) r s done.long) ∙ has)

  list_all-possible : (us : List TriplePattern) → ((v : ℕ) → mentions v us ≡ true → mentions v ts ≡ true)
      → stored m us s ≡ true → list_all (possible m r) us ≡ true
  list_all-possible [] inside has = refl
  list_all-possible (t ∷ us) inside has =
      let (first, rest) = and_parts (m.has (triple_under s t)) (stored m us s) has in
      and_from (possible m r t) (list_all (possible m r) us)
      (possible_from_stored t (λ v h. inside v (or_left _ (mentions v us) (sym (or-false _) ∙ h)))
      (and_from _ true first refl))
      (list_all-possible us (λ v h. inside v (or_right _ (mentions v us) h)) rest)

pub term_from_bounds : (top n : ℕ) → Term top n → term top n ≡ true
term_from_bounds top n t = and_from (leb 1 n) (leb n top) (le-leb 1 n t.positive) (le-leb n top t.small)

pub bounds_from_term : (top n : ℕ) → term top n ≡ true → Term top n
bounds_from_term top n h =
    let parts = and_parts (leb 1 n) (leb n top) h in
    record { positive = leb-true 1 n parts.0; small = leb-true n top parts.1 }

-- trying every term, and looking ahead, leave out no value that the law protects
pub pruners_lawful : PrunersLawful
pruners_lawful m = (
  record {
    keeps = λ ts r v x s t done has. term_from_bounds m.top x t;
    only = λ ts r v x h. bounds_from_term m.top x h;
  },
  record {
    keeps = λ ts r v x s t done has.
        and_from (term m.top x) (list_all (possible m (with_value r v x)) ts) (term_from_bounds m.top x t)
        (list_all-possible m ts (with_value r v x) s done ts (λ w h. h) (stored_from_all m ts s has));
    only = λ ts r v x h. bounds_from_term m.top x (and_parts (term m.top x) _ h).0;
  },
)
