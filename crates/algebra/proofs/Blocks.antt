-- What the blocks of an alternative do to a row: they keep the values that it has, and give some to variables
-- of theirs that have none. Assumes nothing.
--     in_blocks v bs      the triples of one of the blocks hold v
--     Kept p r s          s is r but for variables with p that have no value in r
--     Fitted ts r s       s gives the variables of the triples that have no value in r one each
use Rattle.std.proofs.Common.{◌≡◌, ℕ, ◌<◌, Bool, true, false, ◌||◌, ◌⊎◌, List, [], ◌∷◌, length, refl, sym}
use Rattle.std.proofs.Common.{◌∙◌, subst, ⊎_elim, inl, inr, arith}
use Rattle.std.proofs.lemmas.Bool.{cases_eq, cases_lt, or_parts}
use Rattle.std.specs.List.{list_any, AllByRecursion}
use Rattle.catalogue.specs.Entries.{Entry}
use Rattle.query.specs.declared.pattern.TriplePattern.{TriplePattern}
use Rattle.query.specs.Lawful.{mentions}
use Rattle.query.specs.Limits.{variables}
use Rattle.query.specs.Parts.{Part}
use Rattle.triples.specs.Meaning.{Meaning}
use Rattle.filter.specs.Rows.{Row, value}
use Rattle.filter.specs.Filters.{passes}
use Rattle.algebra.specs.Patterns.{completions, open_variables}
use Rattle.algebra.specs.Admissions.{Completes}
use Rattle.algebra.proofs.Lists.{all-weaker, all-flat_map}
use Rattle.algebra.proofs.Rows.{equal_past}
use Rattle.algebra.proofs.Lexical.{Less, Lowest, lowest_from_less}
use Rattle.algebra.proofs.Completions.{all-completions, rising-open, open_from_member, member-open}
use Rattle.algebra.proofs.Listing.{fitting, or_itself, extended}
use Rattle.algebra.proofs.Fitting.{all-fitting, all-or_itself}

-- the triples of one of the blocks hold v
abbrev pub in_blocks : ℕ → List Part → Bool
in_blocks v bs = list_any (λ b. mentions v b.triples) bs

-- s is r, but that variables with p that have no value in r may have one
pub record Kept (p : ℕ → Bool) (r s : Row) : Type 0 where
  pub long : length s ≡ length r
  pub same : (v : ℕ) → (0 < value r v) ⊎ (p v ≡ false) → value s v ≡ value r v

pub kept-self : (p : ℕ → Bool) (r : Row) → Kept p r r
kept-self p r = record { long = refl; same = λ _ _. refl }

pub some_from_kept : (p : ℕ → Bool) (r s : Row) → Kept p r s → (v : ℕ) → 0 < value r v → 0 < value s v
some_from_kept p r s k v h = subst (λ n. 0 < n) (sym (k.same v (inl h))) h

-- one after the other
kept_from_two : (p q : ℕ → Bool) (r s t : Row) → Kept p r s → Kept q s t → Kept (λ v. p v || q v) r t
kept_from_two p q r s t k l = record {
  long = l.long ∙ k.long;
  same = λ v. ⊎_elim (λ h. l.same v (inl (some_from_kept p r s k v h)) ∙ k.same v (inl h))
      (λ f. let parts = or_parts (p v) (q v) f in l.same v (inr parts.1) ∙ k.same v (inr parts.0));
}

-- s is r, but that the variables of the triples have values
pub record Fitted (ts : List TriplePattern) (r s : Row) : Type 0 where
  pub given : (v : ℕ) → v < variables → mentions v ts ≡ true → 0 < value s v
  pub kept : Kept (λ v. mentions v ts) r s

-- completions

module _ (ts : List TriplePattern) (r : Row) where
  fitted_from_completes : (top : ℕ) (s : Row) → Completes top ts r s → Fitted ts r s
  fitted_from_completes top s c = record {
    given = λ v h t. ⊎_elim
        (λ e. (c.given v h t e).positive)
        (λ n. let same = c.kept v (inr (inr n)) in omega (arith, n, same))
        (cases_eq (value r v) 0);
    kept = record {
      long = c.long;
      same = λ v h. c.kept v (inr (⊎_elim (λ l. inr (λ e. omega (arith, l, e))) inl h));
    };
  }

  pub all_fitted : (top : ℕ) → length r ≡ variables → AllByRecursion (Fitted ts r) (completions top ts r)
  all_fitted top long =
      all-weaker (Completes top ts r) (Fitted ts r) (fitted_from_completes top) (completions top ts r)
      (all-completions top ts r long)

  -- fitted rows in the order over the variables that were open differ first at a variable of the triples
  pub lowest_from_fitted : length r ≡ variables → (s t : Row) → Fitted ts r s → Fitted ts r t
      → Less (open_variables ts r) s t → Lowest (λ v. mentions v ts) s t
  lowest_from_fitted long s t f g =
      lowest_from_less (λ v. mentions v ts) s t (open_variables ts r) ((rising-open ts r long).1)
      (λ v i. (open_from_member ts r v i).held)
      (λ v held out. ⊎_elim
      (λ small. ⊎_elim
      (λ free. absurd (out (member-open ts r v (record { inside = small; held = held; valueless = free }))))
      (λ some. f.kept.same v (inl (omega (arith, some))) ∙ sym (g.kept.same v (inl (omega (arith, some)))))
      (cases_eq (value r v) 0))
      (equal_past s t variables (f.kept.long ∙ long) (g.kept.long ∙ long) v)
      (cases_lt v variables))

-- extended

module _ (m : Meaning) (e : ℕ → Entry) where
  -- what the first block keeps of a row, the later ones keep, with a larger set of variables that may change
  pub all-extended : (bs : List Part) (r : Row) → length r ≡ variables
      → AllByRecursion (Kept (λ v. in_blocks v bs) r) (extended m e bs r)
  all-extended [] r h = (kept-self (λ _. false) r, tt)
  all-extended (b ∷ bs) r h =
      let fits = fitting m (passes e b.filter) b.triples r in
      let K = λ (s : Row). Kept (λ v. mentions v b.triples) r s in
      let P = λ (t : Row). Kept (λ v. in_blocks v (b ∷ bs)) r t in
      all-flat_map P (extended m e bs) (or_itself r fits)
      (all-weaker K (λ s. AllByRecursion P (extended m e bs s))
      (λ s k. all-weaker (λ t. Kept (λ v. in_blocks v bs) s t) P
      (λ t. kept_from_two (λ v. mentions v b.triples) (λ v. in_blocks v bs) r s t k)
      (extended m e bs s) (all-extended bs s (k.long ∙ h)))
      (or_itself r fits)
      (all-or_itself K r fits (kept-self (λ v. mentions v b.triples) r)
      (all-weaker (Fitted b.triples r) K (λ s f. f.kept) fits
      (all-fitting (Fitted b.triples r) m (passes e b.filter) b.triples r
      (all_fitted b.triples r m.top h)))))
