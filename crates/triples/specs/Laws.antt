-- Why lists of good triples, and tables of good pairs, are sound meanings. Assumes nothing.
use Rattle.std.specs.Prelude.{◌≡◌, ℕ, zero, suc, ◌+◌, ◌-◌, ◌≤◌, Bool, true, false, ◌&&◌, ◌||◌, List, [], ◌∷◌}
use Rattle.std.specs.Prelude.{◌++◌, map, length, drop, ◌==◌, nat_le, refl}
use Rattle.std.proofs.Common.{⊎_elim, sym, ap, subst, ◌∙◌, arith}
use Rattle.std.proofs.lemmas.List.{length-take, length-drop, get_or-take, get_or-drop}
use Rattle.std.proofs.lemmas.Bool.{and_parts, and_from, or_cases, eqb-true, leb-true, false≢true}
use Rattle.triples.specs.declared.entry.DirectoryEntry.{DirectoryEntry}
use Rattle.triples.specs.declared.pair.Pair.{Pair}
use Rattle.triples.specs.declared.triple.Triple.{Triple}
use Rattle.triples.specs.Order.{same}
use Rattle.triples.specs.Meaning.{Term, Terms, Sound, among, listed, largest_top, first_term, term}
use Rattle.triples.specs.Tables.{AllGood, triple_good, pair_good, triple_of}
use Rattle.triples.specs.Directory.{EntriesGood, first_of, end_of, property_of, follows, section}
use Rattle.triples.specs.Directory.{section_triples}
use Rattle.triples.specs.Directory.{triples_upto, table_triples}

-- a number that passes the test is a term
pub term_passed : (top n : ℕ) → term top n ≡ true → Term top n
term_passed top n h =
    let parts = and_parts (nat_le first_term n) (nat_le n top) h in
    record { positive = leb-true first_term n parts.0; small = leb-true n top parts.1 }

-- a triple that is the same as a good one has a term at each position
pub same_terms : (top : ℕ) (x t : Triple) → triple_good top x ≡ true → same x t ≡ true → Terms top t
same_terms top x t g e =
    let good = and_parts (term top x.subject) _ g in
    let more = and_parts (term top x.property) (term top x.object) good.1 in
    let equal = and_parts (x.subject == t.subject) _ e in
    let others = and_parts (x.property == t.property) (x.object == t.object) equal.1 in
    record {
      subject = subst (Term top) (eqb-true x.subject t.subject equal.0)
          (term_passed top x.subject good.0);
      property = subst (Term top) (eqb-true x.property t.property others.0)
          (term_passed top x.property more.0);
      object = subst (Term top) (eqb-true x.object t.object others.1)
          (term_passed top x.object more.1);
    }

-- an element of a list of good triples has a term at each position
pub among_terms : (top : ℕ) (ts : List Triple) (t : Triple) → AllGood (triple_good top) ts
    → among ts t ≡ true
    → Terms top t
among_terms top [] t g h = absurd (false≢true h)
among_terms top (x ∷ ts) t g h =
    ⊎_elim (same_terms top x t (g 0 x (omega arith)))
    (among_terms top ts t (λ k d l. g (suc k) d (omega (arith, l))))
    (or_cases (same x t) (among ts t) h)

-- the meaning of a top and a list of good triples is sound
pub listed_sound : (top : ℕ) (ts : List Triple) → top ≤ largest_top → AllGood (triple_good top) ts
    → Sound (listed top ts)
listed_sound top ts small good = record { small = small; terms = λ t. among_terms top ts t good }

-- two lists one behind the other have the elements of both
pub among-append : (xs ys : List Triple) (t : Triple) → among (xs ++ ys) t ≡ (among xs t || among ys t)
among-append [] ys t = refl
among-append (x ∷ xs) ys t =
    ap (λ b. same x t || b) (among-append xs ys t) ∙ or_assoc (same x t) (among xs t) (among ys t)
  where
    or_assoc : (a b c : Bool) → (a || (b || c)) ≡ ((a || b) || c)
    or_assoc true b c = refl
    or_assoc false b c = refl

-- a triple of good pairs under a property that is a term has a term at each position
pub pairs_terms : (top property : ℕ) (xs : List Pair) (t : Triple) → term top property ≡ true
    → AllGood (pair_good top) xs → among (map (triple_of property) xs) t ≡ true → Terms top t
pairs_terms top property [] t p g h = absurd (false≢true h)
pairs_terms top property (x ∷ xs) t p g h =
    ⊎_elim (same_terms top (triple_of property x) t pair_passed)
    (pairs_terms top property xs t p (λ k d l. g (suc k) d (omega (arith, l))))
    (or_cases (same (triple_of property x) t) (among (map (triple_of property) xs) t) h)
  where
    pair_passed : triple_good top (triple_of property x) ≡ true
    pair_passed =
        let parts = and_parts (term top x.subject) (term top x.object) (g 0 x (omega arith)) in
        and_from (term top x.subject) (term top property && term top x.object) parts.0
        (and_from (term top property) (term top x.object) p parts.1)

-- the pairs of an entry are good where all pairs are
pub section_good : (top : ℕ) (dir : List DirectoryEntry) (pairs : List Pair) (i : ℕ)
    → AllGood (pair_good top) pairs
    → AllGood (pair_good top) (section dir pairs i)
section_good top dir pairs i g k d l =
    let first = first_of dir i in
    let count = end_of dir (length pairs) i - first in
    let taken = length-take count (drop first pairs) in
    let dropped = length-drop first pairs in
    subst (λ x. pair_good top x ≡ true)
    (sym (get_or-take count (drop first pairs) k d (omega (arith, l, taken)) ∙ get_or-drop first pairs k d))
    (g (first + k) d (omega (arith, l, taken, dropped)))

-- the meaning of a top, a good directory and good pairs is sound
pub table_sound : (top : ℕ) (dir : List DirectoryEntry) (pairs : List Pair) → top ≤ largest_top
    → EntriesGood top dir (length pairs) → AllGood (pair_good top) pairs
    → Sound (listed top (table_triples dir pairs))
table_sound top dir pairs small good terms =
    record { small = small; terms = λ t. upto_terms (length dir) t (omega arith) }
  where
    upto_terms : (n : ℕ) (t : Triple) → n ≤ length dir → among (triples_upto dir pairs n) t ≡ true
        → Terms top t
    upto_terms zero t h e = absurd (false≢true e)
    upto_terms (suc n) t h e =
        let entry = and_parts (term top (property_of dir n) && nat_le (first_of dir n) (length pairs))
        (follows dir n)
        (good n (omega (arith, h))) in
        let property = and_parts (term top (property_of dir n)) (nat_le (first_of dir n) (length pairs))
        entry.0 in
        ⊎_elim (upto_terms n t (omega (arith, h)))
        (pairs_terms top (property_of dir n) (section dir pairs n) t property.0
        (section_good top dir pairs n terms))
        (or_cases (among (triples_upto dir pairs n) t) (among (section_triples dir pairs n) t)
        (sym (among-append (triples_upto dir pairs n) (section_triples dir pairs n) t) ∙ e))
