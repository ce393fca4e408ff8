-- Why equal tables mean the same. Assumes nothing.
use Rattle.std.proofs.Common.{◌≡◌, ℕ, zero, suc, ◌+◌, ◌-◌, ◌<◌, ◌≤◌, Bool, true, false, List, length, get_or}
use Rattle.std.proofs.Common.{drop, vec_items, sym, refl, ap, ◌∙◌, subst, ⊎_elim, arith}
use mathlib.Core.Path.{fun_ext}
use Rattle.std.proofs.lemmas.List.{length-take, length-drop, get_or-take, get_or-drop, map-id}
use Rattle.std.proofs.lemmas.Bool.{or_cases, or_left, or_right, false≢true, cases_eq}
use Rattle.triples.specs.declared.entry.DirectoryEntry.{DirectoryEntry}
use Rattle.triples.specs.declared.pair.Pair.{Pair}
use Rattle.triples.specs.declared.triple.Triple.{Triple}
use Rattle.triples.specs.Meaning.{Meaning, among}
use Rattle.triples.specs.Tables.{itself, triple_of}
use Rattle.triples.specs.Directory.{property_of, first_of, end_of, section, section_triples, triples_upto}
use Rattle.triples.specs.Directory.{table_triples}
use Rattle.triples.specs.Laws.{among-append}
use Rattle.triples.specs.Theorems.{InRows, InTable, SameTriplesSameMeaning}
use Rattle.triples.proofs.Meaning.{among_place, at_among}

-- rows

pub among_in_rows : (rows : List Triple) (t : Triple) → among rows t ≡ true → InRows rows t
among_in_rows rows t h =
    let p = among_place itself rows t (subst (λ ts. among ts t ≡ true) (sym (map-id rows)) h) in
    record { place = p.at; inside = p.inside; is = p.is }

pub in_rows_among : (rows : List Triple) (t : Triple) → InRows rows t → among rows t ≡ true
in_rows_among rows t i =
    subst (λ ts. among ts t ≡ true) (map-id rows) (at_among itself rows i.place t i.inside i.is)

-- tables

same_pair : {s s' o o' : ℕ} → s ≡ s' → o ≡ o'
    → ◌≡◌ {A = Pair} (record { subject = s; object = o }) (record { subject = s'; object = o' })
same_pair e h = cc

same_triple : {s s' p p' o o' : ℕ} → s ≡ s' → p ≡ p' → o ≡ o'
    → ◌≡◌ {A = Triple} (record { subject = s; property = p; object = o })
    (record { subject = s'; property = p'; object = o' })
same_triple e f h = cc

module _ (dir : List DirectoryEntry) (pairs : List Pair) where
  in_section : (n : ℕ) (t : Triple) → n < length dir → among (section_triples dir pairs n) t ≡ true
      → InTable dir pairs t
  in_section n t l h =
      let first = first_of dir n in
      let count = end_of dir (length pairs) n - first in
      let p = among_place (triple_of (property_of dir n)) (section dir pairs n) t h in
      let inside = p.inside in
      let taken = length-take count (drop first pairs) in
      let dropped = length-drop first pairs in
      let short : p.at < count = omega (arith, inside, taken) in
      record {
        entry = n;
        place = first + p.at;
        listed = l;
        begun = omega arith;
        ended = omega (arith, short);
        inside = omega (arith, inside, taken, dropped);
        named = ap (λ u. u.property) (p.is p.element);
        is = λ d. sym (get_or-take count (drop first pairs) p.at d short ∙ get_or-drop first pairs p.at d)
            ∙ same_pair (ap (λ u. u.subject) (p.is d)) (ap (λ u. u.object) (p.is d));
      }

  upto_in_table : (n : ℕ) (t : Triple) → n ≤ length dir → among (triples_upto dir pairs n) t ≡ true
      → InTable dir pairs t
  upto_in_table zero t h e = absurd (false≢true e)
  upto_in_table (suc n) t h e =
      ⊎_elim (upto_in_table n t (omega (arith, h))) (in_section n t h)
      (or_cases (among (triples_upto dir pairs n) t) (among (section_triples dir pairs n) t)
      (sym (among-append (triples_upto dir pairs n) (section_triples dir pairs n) t) ∙ e))

  pub among_in_table : (t : Triple) → among (table_triples dir pairs) t ≡ true → InTable dir pairs t
  among_in_table t = upto_in_table (length dir) t (omega arith)

  section-among : (t : Triple) (i : InTable dir pairs t)
      → among (section_triples dir pairs i.entry) t ≡ true
  section-among t i =
      let first = first_of dir i.entry in
      let count = end_of dir (length pairs) i.entry - first in
      let begun = i.begun in
      let ended = i.ended in
      let inside = i.inside in
      let taken = length-take count (drop first pairs) in
      let dropped = length-drop first pairs in
      let back : first + (i.place - first) ≡ i.place = omega (arith, begun) in
      at_among (triple_of (property_of dir i.entry)) (section dir pairs i.entry) (i.place - first) t
      (omega (arith, begun, ended, inside, taken, dropped))
      (λ d. let e = get_or-take count (drop first pairs) (i.place - first) d (omega (arith, begun, ended))
      ∙ get_or-drop first pairs (i.place - first) d ∙ ap (λ k. get_or pairs k d) back ∙ i.is d in
      same_triple (ap (λ x. x.subject) e) i.named (ap (λ x. x.object) e))

  upto_among : (n : ℕ) (t : Triple) (i : InTable dir pairs t) → i.entry < n
      → among (triples_upto dir pairs n) t ≡ true
  upto_among zero t i h = absurd (omega (arith, h))
  upto_among (suc n) t i h =
      among-append (triples_upto dir pairs n) (section_triples dir pairs n) t
      ∙ ⊎_elim
      (λ e. or_right (among (triples_upto dir pairs n) t) (among (section_triples dir pairs n) t)
      (subst (λ k. among (section_triples dir pairs k) t ≡ true) e (section-among t i)))
      (λ ne. or_left (among (triples_upto dir pairs n) t) (among (section_triples dir pairs n) t)
      (upto_among n t i (omega (arith, h, ne))))
      (cases_eq i.entry n)

  pub in_table_among : (t : Triple) → InTable dir pairs t → among (table_triples dir pairs) t ≡ true
  in_table_among t i = upto_among (length dir) t i i.listed

-- both

both_true : (a b : Bool) → (a ≡ true → b ≡ true) → (b ≡ true → a ≡ true) → a ≡ b
both_true true b f g = sym (f refl)
both_true false true f g = g refl
both_true false false f g = refl

same_meaning : {n k : ℕ} {A B : Triple → Bool} → n ≡ k → A ≡ B
    → ◌≡◌ {A = Meaning} (record { top = n; has = A }) (record { top = k; has = B })
same_meaning e h = cc

pub same_triples_same_meaning : SameTriplesSameMeaning
same_triples_same_meaning p r top there back =
    let dir = vec_items p.directory in
    let pairs = vec_items p.pairs in
    let rows = vec_items r.rows in
    same_meaning top (fun_ext (λ t. both_true (among (table_triples dir pairs) t) (among rows t)
    (λ h. in_rows_among rows t (there t (among_in_table dir pairs t h)))
    (λ h. in_table_among dir pairs t (back t (among_in_rows rows t h)))))
