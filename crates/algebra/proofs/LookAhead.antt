-- What the look-ahead asks of a pattern: that some triple of the store matches it. Assumes nothing.
--     look_ahead_in_words     it admits a value exactly if the triples of the part are each matched
use Rattle.std.proofs.Common.{◌≡◌, ℕ, ◌<◌, true, false, cond, not, ◌≢◌, leb, List, [], ◌∷◌, map, length, refl}
use Rattle.std.proofs.Common.{sym, ap, ◌∙◌, subst, inl, inr, ⊎_elim, arith}
use Rattle.std.proofs.lemmas.Bool.{cases_lt, cond-true, and_parts, and_from, or_from, or_parts, cases_eq}
use Rattle.std.proofs.lemmas.Bool.{cond_both, eqb-true, eq-eqb, leb-true, both_ways}
use Rattle.std.proofs.lemmas.List.FromFn.{length-map-range_with_len}
use Rattle.std.specs.List.{AllByRecursion, flat_map, list_all, list_any}
use Rattle.query.specs.declared.place.Place.{Place}
use Rattle.query.specs.declared.place.Place.TheVariants as place
use Rattle.query.specs.declared.pattern.TriplePattern.{TriplePattern}
use Rattle.query.specs.Lawful.{mentions, is_variable, lawful_triple, lawful_triples, lawful_filter}
use Rattle.query.specs.Lawful.{lawful_part, lawful_group, limited, shares, lawful}
use Rattle.query.specs.Parts.{Group}
use Rattle.query.specs.Limits.{variables, most_variable, most_term, most_in_part, within, lawful_place}
use Rattle.query.proofs.Limits.{group_limits, query_limits}
use Rattle.triples.specs.declared.triple.Triple.{Triple}
use Rattle.triples.specs.Meaning.{Meaning, Sound, Term, Terms, term}
use Rattle.filter.specs.Rows.{Row, none, value, number_at}
use Rattle.algebra.specs.Patterns.{with_value, triple_under, stored, all_variables, completions}
use Rattle.algebra.specs.Admissions.{Completes, Allows, Matches, possible}
use Rattle.algebra.specs.Order.{parts_of}
use Rattle.algebra.specs.Theorems.{Matched, AdmitsMatched, LookAheadInWords}
use Rattle.algebra.proofs.Lists.{all-map, all-flat_map, all_from_list_all}
use Rattle.algebra.proofs.Members.{has_from_member, member_from_any}
use Rattle.algebra.proofs.Rows.{equal_past, value-map, length-with_value}
use Rattle.algebra.proofs.Patterns.{in_triple, in_subject, in_property, in_object}
use Rattle.algebra.proofs.Completions.{all-completions}
use Rattle.algebra.proofs.Pruning.{possible_from_stored, term_from_bounds, bounds_from_term}

-- places and triples

same_place : (v : ℕ) (p q : Place) → is_variable v p ≡ true → is_variable v q ≡ true → p ≡ q
same_place v (place.Variable a) (place.Variable b) h k =
    let e : a ≡ b = omega (arith, eqb-true v a h, eqb-true v b k) in ap place.Variable e
same_place v (place.Variable a) (place.Term b) h k = absurd (both_ways false refl k)
same_place v (place.Term a) q h k = absurd (both_ways false refl h)

same_triple : (a b : Triple) → a.subject ≡ b.subject → a.property ≡ b.property → a.object ≡ b.object → a ≡ b
same_triple a b subject property object =
    let build : ℕ → ℕ → ℕ → Triple = λ s p o. record { subject = s; property = p; object = o } in
    ap (λ s. build s a.property a.object) subject
    ∙ ap (λ p. build b.subject p a.object) property
    ∙ ap (build b.subject b.property) object

-- from a completion to a triple

-- a value that a completion has at a place is one that the place allows
allows_from_completes : (top : ℕ) (ts : List TriplePattern) (r s : Row) → Completes top ts r s → (p : Place)
    → Allows r p (number_at s p)
allows_from_completes top ts r s done (place.Term n) = inr refl
allows_from_completes top ts r s done (place.Variable v) =
    ⊎_elim inl (λ some. inr (sym (done.kept v (inr (inr some))))) (cases_eq (value r v) none)

matches_from_completes : (top : ℕ) (ts : List TriplePattern) (r s : Row) → Completes top ts r s
    → (t : TriplePattern) → Matches r t (triple_under s t)
matches_from_completes top ts r s done t = record {
  subject = allows_from_completes top ts r s done t.subject;
  property = allows_from_completes top ts r s done t.property;
  object = allows_from_completes top ts r s done t.object;
  subject_property = ap (number_at s);
  subject_object = ap (number_at s);
  property_object = ap (number_at s);
}

-- what a place allows is the value that the variable there has
value_from_allows : (r : Row) (p : Place) (n v : ℕ) → is_variable v p ≡ true → Allows r p n → value r v ≢ none
    → n ≡ value r v
value_from_allows r (place.Term m) n v here allows has = absurd (both_ways false refl here)
value_from_allows r (place.Variable w) n v here allows has =
    let e : v ≡ w = eqb-true v w here in
    ⊎_elim
    (λ nothing. absurd (has (ap (value r) e ∙ nothing)))
    (λ same. sym same ∙ ap (value r) (sym e))
    allows

-- from a triple to a completion

-- what the row that has the numbers of u at the variables of t, and is like r elsewhere, gives v
abbrev picked : Row → TriplePattern → Triple → ℕ → ℕ
picked r t u v =
    cond (is_variable v t.subject) u.subject
    (cond (is_variable v t.property) u.property (cond (is_variable v t.object) u.object (value r v)))

-- that row
abbrev filled : Row → TriplePattern → Triple → Row
filled r t u = map (picked r t u) all_variables

module _ (r : Row) (t : TriplePattern) (u : Triple) where
  picked-each : (v : ℕ) (P : ℕ → Type 0) → (is_variable v t.subject ≡ true → P u.subject)
      → (is_variable v t.property ≡ true → P u.property) → (is_variable v t.object ≡ true → P u.object)
      → (in_triple v t ≡ false → P (value r v)) → P (picked r t u v)
  picked-each v P subject property object other =
      let last = cond (is_variable v t.object) u.object (value r v) in
      let later = cond (is_variable v t.property) u.property last in
      cond_both (is_variable v t.subject) u.subject later P subject
      (λ a. cond_both (is_variable v t.property) u.property last P property
      (λ b. cond_both (is_variable v t.object) u.object (value r v) P object
      (λ c. other (or_from (is_variable v t.subject) _ a (or_from (is_variable v t.property) _ b c)))))

  length-filled : length (filled r t u) ≡ variables
  length-filled = length-map-range_with_len (picked r t u) 0 variables

  value-filled : (v : ℕ) → v < variables → value (filled r t u) v ≡ picked r t u v
  value-filled v = value-map (picked r t u) variables v

  number_at-filled : (p : Place) (n : ℕ) → lawful_place p ≡ true → Allows r p n
      → ((v : ℕ) → is_variable v p ≡ true → picked r t u v ≡ n) → number_at (filled r t u) p ≡ n
  number_at-filled (place.Variable v) n ok allows is =
      let below = leb-true v most_variable (and_parts (leb 0 v) (leb v most_variable) ok).1 in
      value-filled v (omega (arith, below)) ∙ is v (eq-eqb v v refl)
  number_at-filled (place.Term x) n ok allows is =
      ⊎_elim
      (λ nothing. let positive = leb-true 1 x (and_parts (leb 1 x) (leb x most_term) ok).0 in
      absurd (omega (arith, positive, nothing)))
      (λ same. same) allows

module _ (r : Row) (t : TriplePattern) (u : Triple) (matches : Matches r t u) where
  picked-subject : (v : ℕ) → is_variable v t.subject ≡ true → picked r t u v ≡ u.subject
  picked-subject v h = cond-true (is_variable v t.subject) u.subject _ h

  picked-property : (v : ℕ) → is_variable v t.property ≡ true → picked r t u v ≡ u.property
  picked-property v h =
      picked-each r t u v (λ n. n ≡ u.property)
      (λ k. matches.subject_property (same_place v t.subject t.property k h))
      (λ k. refl)
      (λ k. sym (matches.property_object (same_place v t.property t.object h k)))
      (λ free. absurd (both_ways (in_triple v t) free (in_property v t h)))

  picked-object : (v : ℕ) → is_variable v t.object ≡ true → picked r t u v ≡ u.object
  picked-object v h =
      picked-each r t u v (λ n. n ≡ u.object)
      (λ k. matches.subject_object (same_place v t.subject t.object k h))
      (λ k. matches.property_object (same_place v t.property t.object k h))
      (λ k. refl)
      (λ free. absurd (both_ways (in_triple v t) free (in_object v t h)))

  triple_under-filled : lawful_triple t ≡ true → triple_under (filled r t u) t ≡ u
  triple_under-filled lawful =
      let places = and_parts (lawful_place t.subject) _ lawful in
      let others = and_parts (lawful_place t.property) (lawful_place t.object) places.1 in
      same_triple (triple_under (filled r t u) t) u
      (number_at-filled r t u t.subject u.subject places.0 matches.subject picked-subject)
      (number_at-filled r t u t.property u.property others.0 matches.property picked-property)
      (number_at-filled r t u t.object u.object others.1 matches.object picked-object)

  -- a value that the row has is kept
  picked-kept : (v : ℕ) → value r v ≢ none → picked r t u v ≡ value r v
  picked-kept v some =
      picked-each r t u v (λ n. n ≡ value r v)
      (λ k. value_from_allows r t.subject u.subject v k matches.subject some)
      (λ k. value_from_allows r t.property u.property v k matches.property some)
      (λ k. value_from_allows r t.object u.object v k matches.object some)
      (λ k. refl)

  -- so is what the row has for a variable that is not in the pattern
  picked-other : (v : ℕ) → in_triple v t ≡ false → picked r t u v ≡ value r v
  picked-other v free =
      picked-each r t u v (λ n. n ≡ value r v)
      (λ k. absurd (both_ways (in_triple v t) free (in_subject v t k)))
      (λ k. absurd (both_ways (in_triple v t) free (in_property v t k)))
      (λ k. absurd (both_ways (in_triple v t) free (in_object v t k)))
      (λ k. refl)

  completes-filled : (top : ℕ) → Terms top u → length r ≡ variables → Completes top (t ∷ []) r (filled r t u)
  completes-filled top terms long = record {
    long = length-filled r t u ∙ sym long;
    given = λ v below inside nothing. subst (Term top) (sym (value-filled r t u v below))
        (picked-each r t u v (Term top) (λ k. terms.subject) (λ k. terms.property) (λ k. terms.object)
        (λ free. absurd (both_ways (mentions v (t ∷ [])) (or_from _ false free refl) inside)));
    kept = λ v h. ⊎_elim
        (λ below. value-filled r t u v below
        ∙ ⊎_elim (λ past. absurd (omega (arith, below, past)))
        (⊎_elim (λ lacks. picked-other v ((or_parts _ false lacks).0)) (picked-kept v)) h)
        (equal_past (filled r t u) r variables (length-filled r t u) long v)
        (cases_lt v variables);
  }

-- a pattern is possible exactly if some triple of the store matches it

module _ (m : Meaning) (t : TriplePattern) (r : Row) (long : length r ≡ variables) where
  matched_from_possible : possible m r t ≡ true → Matched m r t
  matched_from_possible h =
      let (s, there, held) = member_from_any (stored m (t ∷ [])) (completions m.top (t ∷ []) r) h in
      let done = has_from_member (Completes m.top (t ∷ []) r) s (completions m.top (t ∷ []) r)
      (all-completions m.top (t ∷ []) r long) there in (
        triple_under s t,
        (and_parts (m.has (triple_under s t)) true held).0,
        matches_from_completes m.top (t ∷ []) r s done t,
      )

  possible_from_matched : Sound m → lawful_triple t ≡ true → Matched m r t → possible m r t ≡ true
  possible_from_matched sound lawful (u, has, matches) =
      possible_from_stored m (t ∷ []) r (filled r t u)
      (completes-filled r t u matches m.top (sound.terms u has) long) t (λ v h. h)
      (and_from (m.has (triple_under (filled r t u) t)) true
      (ap m.has (triple_under-filled r t u matches lawful) ∙ has) refl)

-- the patterns of a part

module _ (m : Meaning) (r : Row) (long : length r ≡ variables) where
  all-matched : (ts : List TriplePattern) → list_all (possible m r) ts ≡ true
      → AllByRecursion (Matched m r) ts
  all-matched ts h =
      all_from_list_all (Matched m r) (possible m r) (λ t. matched_from_possible m t r long) ts h

  list_all-matched : Sound m → (ts : List TriplePattern) → list_all lawful_triple ts ≡ true
      → AllByRecursion (Matched m r) ts → list_all (possible m r) ts ≡ true
  list_all-matched sound [] lawful h = refl
  list_all-matched sound (t ∷ ts) lawful h =
      let (first, rest) = and_parts (lawful_triple t) (list_all lawful_triple ts) lawful in
      and_from (possible m r t) (list_all (possible m r) ts)
      (possible_from_matched m t r long sound first h.0) (list_all-matched sound ts rest h.1)

admits_matched : (m : Meaning) → Sound m → (ts : List TriplePattern) → list_all lawful_triple ts ≡ true
    → AdmitsMatched m ts
admits_matched m sound ts lawful r v x long =
    let s = with_value r v x in
    let longs = length-with_value r v x ∙ long in (
      (λ h. let (is, each) = and_parts (term m.top x) (list_all (possible m s) ts) h in
          (bounds_from_term m.top x is, all-matched m s longs ts each)),
      (λ t h. and_from (term m.top x) (list_all (possible m s) ts) (term_from_bounds m.top x t)
          (list_all-matched m s longs sound ts lawful h)),
    )

-- the parts of a query

module _ (P : List TriplePattern → Type 0)
    (has : (ts : List TriplePattern) → list_all lawful_triple ts ≡ true → P ts) where
  part-has : (least : ℕ) (ts : List TriplePattern) → lawful_triples least ts ≡ true → P ts
  part-has least ts h =
      has ts (and_parts (within least most_in_part (length ts)) (list_all lawful_triple ts) h).1

  all-parts : (g : Group) → lawful_group g ≡ true → AllByRecursion P (parts_of g)
  all-parts g h =
      let l = group_limits g h in (
        part-has 0 g.required l.required,
        all-map P (λ b. b.triples) g.blocks
            (all_from_list_all (λ b. P b.triples) lawful_part
            (λ b k. part-has 1 b.triples
            (and_parts (lawful_triples 1 b.triples) (lawful_filter b.filter) k).0)
            g.blocks l.blocks),
      )

  all-query_parts : (q : List Group) → list_all lawful_group q ≡ true
      → AllByRecursion P (flat_map parts_of q)
  all-query_parts q h =
      all-flat_map P parts_of q
      (all_from_list_all (λ g. AllByRecursion P (parts_of g)) lawful_group all-parts q h)

pub look_ahead_in_words : (m : Meaning) (q : List Group) → Sound m → lawful q ≡ true → LookAheadInWords m q
look_ahead_in_words m q sound h =
    all-query_parts (AdmitsMatched m) (admits_matched m sound) q
    (query_limits q (and_parts (limited q) (not (list_any shares q)) h).0).groups
