-- Laws of triple patterns under rows: rows with the same values for the variables of patterns make the same
-- triples of them, and a row can take these values from another. Assumes nothing.
--     in_triple v t      v is in the pattern t
--     lent ts r s        the row r with the values that s gives the variables of ts
use Rattle.std.proofs.Common.{false, cond, map, length, ◌<◌, sym, subst, ⊎_elim, ◌≡◌, ℕ, Bool, true, ◌&&◌}
use Rattle.std.proofs.Common.{◌||◌, List, [], ◌∷◌, refl, ap₂, ◌∙◌, eq-eqb}
use Rattle.std.proofs.lemmas.Bool.{cases_lt, cond-true, cond-false, and_from, or_cases, eqb-true, or_left}
use Rattle.std.proofs.lemmas.Bool.{or_right}
use Rattle.std.proofs.lemmas.List.FromFn.{length-map-range_with_len}
use Rattle.std.specs.List.{range_with_len}
use Rattle.query.specs.declared.place.Place.{Place}
use Rattle.query.specs.declared.place.Place.TheVariants.{Variable, Term}
use Rattle.query.specs.declared.pattern.TriplePattern.{TriplePattern}
use Rattle.query.specs.Lawful.{is_variable, mentions}
use Rattle.triples.specs.Meaning as terms
use Rattle.triples.specs.Meaning.{Meaning}
use Rattle.filter.specs.Rows.{Row, value, number_at}
use Rattle.algebra.specs.Patterns.{triple_under, stored, Stored}
use Rattle.algebra.proofs.Lists.{all_from_list_all}
use Rattle.algebra.proofs.Rows.{value-map, equal_past}

-- number_at

number_at-same : (p : Place) (r s : Row) → ((v : ℕ) → is_variable v p ≡ true → value r v ≡ value s v)
    → number_at r p ≡ number_at s p
number_at-same (Variable w) r s same = same w (eq-eqb w w refl)
number_at-same (Term t) r s same = refl

-- triple_under

-- v is in the triple
abbrev pub in_triple : ℕ → TriplePattern → Bool
in_triple v t = is_variable v t.subject || (is_variable v t.property || is_variable v t.object)

module _ (v : ℕ) (t : TriplePattern) where
  pub in_subject : is_variable v t.subject ≡ true → in_triple v t ≡ true
  in_subject h = or_left _ _ h

  pub in_property : is_variable v t.property ≡ true → in_triple v t ≡ true
  in_property h = or_right (is_variable v t.subject) _ (or_left _ _ h)

  pub in_object : is_variable v t.object ≡ true → in_triple v t ≡ true
  in_object h = or_right (is_variable v t.subject) _ (or_right (is_variable v t.property) _ h)

triple_under-same : (t : TriplePattern) (r s : Row)
    → ((v : ℕ) → in_triple v t ≡ true → value r v ≡ value s v) → triple_under r t ≡ triple_under s t
triple_under-same t r s same =
    let subject = number_at-same t.subject r s (λ v h. same v (in_subject v t h)) in
    let property = number_at-same t.property r s (λ v h. same v (in_property v t h)) in
    let object = number_at-same t.object r s (λ v h. same v (in_object v t h)) in
    cc

-- stored

-- rows with the same values for the variables of the patterns have the same triples in the store
pub stored-same : (m : Meaning) (ts : List TriplePattern) (r s : Row)
    → ((v : ℕ) → mentions v ts ≡ true → value r v ≡ value s v) → stored m ts r ≡ stored m ts s
stored-same m [] r s same = refl
stored-same m (t ∷ ts) r s same =
    ap₂ (λ u b. m.has u && b)
    (triple_under-same t r s (λ v h. same v (or_left (in_triple v t) (mentions v ts) h)))
    (stored-same m ts r s (λ v h. same v (or_right (in_triple v t) (mentions v ts) h)))

-- the test says what the fact does, triple by triple
pub all_from_stored : (m : Meaning) (ts : List TriplePattern) (r : Row) → stored m ts r ≡ true → Stored m ts r
all_from_stored m ts r h =
    all_from_list_all (λ t. m.has (triple_under r t) ≡ true) (λ t. m.has (triple_under r t)) (λ t k. k) ts h

pub stored_from_all : (m : Meaning) (ts : List TriplePattern) (r : Row) → Stored m ts r → stored m ts r ≡ true
stored_from_all m [] r h = refl
stored_from_all m (t ∷ ts) r h =
    and_from (m.has (triple_under r t)) (stored m ts r) h.0 (stored_from_all m ts r h.1)

-- what is stored under a row is stored under one with the same values for the variables of the patterns
pub stored_from_same : (m : Meaning) (ts : List TriplePattern) (r s : Row)
    → ((v : ℕ) → mentions v ts ≡ true → value r v ≡ value s v) → Stored m ts s → Stored m ts r
stored_from_same m ts r s same h =
    all_from_stored m ts r (stored-same m ts r s same ∙ stored_from_all m ts s h)

term_from_number_at : (top : ℕ) (p : Place) (r : Row) (v : ℕ) → is_variable v p ≡ true
    → terms.Term top (number_at r p) → terms.Term top (value r v)
term_from_number_at top (Variable w) r v here t =
    subst (λ x. terms.Term top (value r x)) (sym (eqb-true v w here)) t
term_from_number_at top (Term x) r v here t = cc

-- a variable of patterns that are in a store of terms has a term
pub term_from_stored : (m : Meaning) → terms.Sound m → (ts : List TriplePattern) (r : Row) (v : ℕ)
    → Stored m ts r → mentions v ts ≡ true → terms.Term m.top (value r v)
term_from_stored m sound [] r v held there = cc
term_from_stored m sound (t ∷ ts) r v held there =
    let (first, rest) = held in
    let three = sound.terms (triple_under r t) first in
    ⊎_elim
    (λ here. ⊎_elim (λ s. term_from_number_at m.top t.subject r v s three.subject)
    (λ others. ⊎_elim (λ p. term_from_number_at m.top t.property r v p three.property)
    (λ o. term_from_number_at m.top t.object r v o three.object)
    (or_cases (is_variable v t.property) (is_variable v t.object) others))
    (or_cases (is_variable v t.subject) (is_variable v t.property || is_variable v t.object) here))
    (term_from_stored m sound ts r v rest)
    (or_cases (in_triple v t) (mentions v ts) there)

-- lent

-- the row r with the values that s gives the variables of the patterns
abbrev pub lent : List TriplePattern → Row → Row → Row
lent ts r s = map (λ v. cond (mentions v ts) (value s v) (value r v)) (range_with_len 0 (length r))

module _ (ts : List TriplePattern) (r s : Row) where
  pub length-lent : length (lent ts r s) ≡ length r
  length-lent = length-map-range_with_len (λ v. cond (mentions v ts) (value s v) (value r v)) 0 (length r)

  value-lent : (v : ℕ) → v < length r → value (lent ts r s) v ≡ cond (mentions v ts) (value s v) (value r v)
  value-lent v = value-map (λ w. cond (mentions w ts) (value s w) (value r w)) (length r) v

  pub value-lent_own : length s ≡ length r → (v : ℕ) → mentions v ts ≡ true
      → value (lent ts r s) v ≡ value s v
  value-lent_own long v h =
      ⊎_elim (λ low. value-lent v low ∙ cond-true (mentions v ts) (value s v) (value r v) h)
      (equal_past (lent ts r s) s (length r) length-lent long v) (cases_lt v (length r))

  pub value-lent_other : (v : ℕ) → mentions v ts ≡ false → value (lent ts r s) v ≡ value r v
  value-lent_other v f =
      ⊎_elim (λ low. value-lent v low ∙ cond-false (mentions v ts) (value s v) (value r v) f)
      (equal_past (lent ts r s) r (length r) length-lent refl v) (cases_lt v (length r))
