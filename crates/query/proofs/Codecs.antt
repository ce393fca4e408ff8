-- Each part of the grammar takes exactly the writings of what it stands for. Assumes nothing.
use Rattle.std.proofs.Common.{◌≡◌, ℕ, ◌+◌, ◌*◌, ◌/◌, ◌≤◌, Bool, true, cond, ◌&&◌, eqb, ltb, leb, List, []}
use Rattle.std.proofs.Common.{◌∷◌, ◌++◌, length, Some, None, sym, refl, ap, ◌∙◌, subst, ⊎_elim, arith}
use Rattle.std.proofs.lemmas.List.{append_assoc, length-append}
use Rattle.std.proofs.lemmas.Bool.{leb-true, ltb-true, eqb-true, eq-eqb, ne_eqb, and_parts, and_from}
use Rattle.std.proofs.lemmas.Bool.{cases_Bool, and_left}
use Rattle.varint.specs.Encode.{encode, largest}
use Rattle.refusal.specs.declared.refusal.Refusal.{Refusal}
use Rattle.refusal.specs.declared.refusal.Refusal.TheVariants.{PlaceCode, NodeInvalid}
use Rattle.query.specs.declared.place.Place.{Place}
use Rattle.query.specs.declared.place.Place.TheVariants.{Variable, Term}
use Rattle.query.specs.declared.kind.Kind.{Kind}
use Rattle.query.specs.declared.kind.Kind.TheVariants as kind
use Rattle.query.specs.declared.node.Node.{Node}
use Rattle.query.specs.declared.node.Node.TheVariants.{Equal, Less, Bound, Not, And, Or}
use Rattle.query.specs.declared.pattern.TriplePattern.{TriplePattern}
use Rattle.query.specs.Codes.{code_of, place_among, place_from, number_of}
use Rattle.query.specs.Limits.{within, lawful_place}
use Rattle.query.specs.Codes.{kind_from}
use Rattle.query.specs.Limits.{most_variable, most_term}
use Rattle.query.specs.Format.{place_bytes, triple_bytes, kind_of, operand_bytes, node_bytes}
use Rattle.query.specs.Lawful.{lawful_triple, lawful_node}
use Rattle.query.specs.Grammar.{place, triple, variable}
use Rattle.query.specs.Readers.{took, refused, Reader, next, one, both, role}
use Rattle.query.specs.Grammar.{lower, operands, node}
use Rattle.query.specs.Theorems.{by_number}
use Rattle.query.proofs.KindNumbers.{kind_back, kind_small, kind_found}
use Rattle.query.proofs.Readers.{Stops, Codec, codec_like, role_codec, tested_codec}
use Rattle.query.proofs.Sequences.{one_took, one_refused, one_stops, both_took, both_back, both_stops}
use Rattle.query.proofs.Sequences.{both_codec}

-- place

place_back : (p : Place) → lawful_place p ≡ true → place_from (code_of p) ≡ Some p
place_back (Variable v) h =
    let half : (2 * v + 1) / 2 ≡ v = omega arith in
    let same = eq-eqb (2 * v + 1) (2 * v + 1) refl in
    ap (λ n. place_among (Variable n ∷ Term n ∷ []) (2 * v + 1)) half
    ∙ ap (λ b. cond b (Some (Variable v)) (place_among (Term v ∷ []) (2 * v + 1))) (and_from _ _ same h)
place_back (Term t) h =
    let half : (2 * t) / 2 ≡ t = omega arith in
    let other : 2 * t + 1 ≡ 2 * t → ⊥ = λ e. omega arith in
    let same = eq-eqb (2 * t) (2 * t) refl in
    ap (λ n. place_among (Variable n ∷ Term n ∷ []) (2 * t)) half
    ∙ ap (λ b. cond b (Some (Variable t)) (place_among (Term t ∷ []) (2 * t)))
    (and_left (eqb (2 * t + 1) (2 * t)) (lawful_place (Variable t)) (ne_eqb (2 * t + 1) (2 * t) other))
    ∙ ap (λ b. cond b (Some (Term t)) None) (and_from _ _ same h)

-- whatever is found among places is lawful and has the code that was looked for
place_found : (ps : List Place) (code : ℕ) (p : Place) → place_among ps code ≡ Some p
    → (lawful_place p ≡ true) × (code_of p ≡ code)
place_found [] code p e = let z : ◌≡◌ {A = ℕ} 0 1 = cc in absurd (omega arith)
place_found (q ∷ ps) code p e =
    let test = eqb (code_of q) code && lawful_place q in
    ⊎_elim
    (λ t. let same : Some q ≡ Some p = sym (ap (λ b. cond b (Some q) (place_among ps code)) t) ∙ e in
    let found : q ≡ p = cc in
    let w = and_parts (eqb (code_of q) code) (lawful_place q) t in
    (ap lawful_place (sym found) ∙ w.1, ap code_of (sym found) ∙ eqb-true (code_of q) code w.0))
    (λ t. place_found ps code p (sym (ap (λ b. cond b (Some q) (place_among ps code)) t) ∙ e))
    (cases_Bool test)

code_small : (p : Place) → lawful_place p ≡ true → code_of p ≤ largest
code_small (Variable v) h = omega
    (arith, leb-true v most_variable (and_parts (leb 0 v) (leb v most_variable) h).1)
code_small (Term t) h = omega (arith, leb-true t most_term (and_parts (leb 1 t) (leb t most_term) h).1)

pub place_codec : Codec place place_bytes (λ p. lawful_place p ≡ true)
place_codec =
    role_codec PlaceCode place_from code_of (λ p. lawful_place p ≡ true)
    (λ p h. (place_back p h, code_small p h))
    (λ n p l e. place_found (Variable (n / 2) ∷ Term (n / 2) ∷ []) n p e)

-- triple

triple_parts : (t : TriplePattern) → lawful_triple t ≡ true
    → (lawful_place t.subject ≡ true)
    × ((lawful_place t.property ≡ true) × (lawful_place t.object ≡ true))
triple_parts t h =
    let a = and_parts (lawful_place t.subject) (lawful_place t.property && lawful_place t.object)
    h in
    let b = and_parts (lawful_place t.property) (lawful_place t.object) a.1 in
    (a.0, (b.0, b.1))

triple_from_parts : (t : TriplePattern)
    → (lawful_place t.subject ≡ true)
    × ((lawful_place t.property ≡ true) × (lawful_place t.object ≡ true))
    → lawful_triple t ≡ true
triple_from_parts t h = and_from _ _ h.0 (and_from _ _ h.1.0 h.1.1)

place_pair_codec : Codec (both {C = Place × Place} place (λ _. place) (λ p o. (p, o)))
    (λ x. place_bytes x.0 ++ place_bytes x.1) (λ x. (lawful_place x.0 ≡ true)
    × (lawful_place x.1 ≡ true))
place_pair_codec =
    both_codec place (λ _. place) (λ p o. (p, o)) place_bytes (λ p. lawful_place p ≡ true) place_codec
    place_bytes (λ _ o. lawful_place o ≡ true) (λ _ _. place_codec) (λ x. x.0) (λ x. x.1) (λ x. refl)
    (λ a b _. (refl, refl))

pub triple_codec : Codec triple triple_bytes (λ t. lawful_triple t ≡ true)
triple_codec =
    codec_like
    (λ t. (lawful_place t.subject ≡ true)
    × ((lawful_place t.property ≡ true) × (lawful_place t.object ≡ true)))
    (λ t. lawful_triple t ≡ true) triple_parts triple_from_parts
    (both_codec {B = Place × Place} {C = TriplePattern} place (λ _. both place (λ _. place) (λ p o. (p, o)))
    (λ s po. record { subject = s; property = po.0; object = po.1 })
    place_bytes (λ p. lawful_place p ≡ true) place_codec
    (λ x. place_bytes x.0 ++ place_bytes x.1) (λ _ x. (lawful_place x.0 ≡ true)
    × (lawful_place x.1 ≡ true))
    (λ _ _. place_pair_codec)
    (λ t. t.subject) (λ t. (t.property, t.object)) (λ t. refl) (λ a b _. (refl, refl)))

-- operands

pub variable_codec : Codec variable encode (λ v. within 0 most_variable v ≡ true)
variable_codec =
    tested_codec NodeInvalid (within 0 most_variable)
    (λ v h. omega (arith, leb-true v most_variable (and_parts (leb 0 v) (leb v most_variable) h).1))

pub lower_codec : (i : ℕ) → i ≤ largest → Codec (lower i) encode (λ a. ltb a i ≡ true)
lower_codec i small = tested_codec NodeInvalid (λ a. ltb a i) (λ a h. omega (arith, ltb-true a i h))

-- a node of the kind, with the bytes that follow its kind
abbrev Taken : ℕ → Kind → ℕ → List ℕ → ℕ → List ℕ → Node → Type 0
Taken i k at bs after rest n =
    ((kind_of n ≡ k) × (lawful_node i n ≡ true)) × (bs ≡ operand_bytes n ++ rest)
    × (after ≡ at + length (operand_bytes n))

-- what one operand and what two operands of one kind took
module _ {A : Type 0} (p : Reader A) (enc : A → List ℕ) (ok : A → Bool)
    (codec : Codec p enc (λ a. ok a ≡ true)) where
  one_only : {B : Type 0} (c : A → B) (at : ℕ) (bs : List ℕ) (x : B) (after : ℕ) (rest : List ℕ)
      → one p c at bs ≡ took x after rest
      → (a : A) × ((x ≡ c a) × ((ok a ≡ true) × ((bs ≡ enc a ++ rest) × (after ≡ at + length (enc a)))))
  one_only c at bs x after rest t =
      let s = one_took p c at bs x after rest t in
      let law = codec.only at bs s.0 after rest s.1.0 in
      (s.0, (s.1.1, (law.0, (law.1, law.2))))

  two_only : {B : Type 0} (c : A → A → B) (at : ℕ) (bs : List ℕ) (x : B) (after : ℕ) (rest : List ℕ)
      → both p (λ _. p) c at bs ≡ took x after rest
      → (a : A) × ((b : A) × ((x ≡ c a b) × (((ok a && ok b) ≡ true)
      × ((bs ≡ (enc a ++ enc b) ++ rest) × (after ≡ at + length (enc a ++ enc b))))))
  two_only c at bs x after rest t =
      let s = both_took p (λ _. p) c at bs x after rest t in
      let f = codec.only at bs s.first s.middle s.between s.first_took in
      let g = codec.only s.middle s.between s.second after rest s.second_took in (
        s.first,
        (
          s.second,
          (
            s.made,
            (
              and_from _ _ f.0 g.0,
              (
                f.1 ∙ ap (λ l. enc s.first ++ l) g.1
                    ∙ sym (append_assoc (enc s.first) (enc s.second) rest),
                omega (arith, f.2, g.2, length-append (enc s.first) (enc s.second)),
              ),
            ),
          ),
        ),
      )

  two_back : {B : Type 0} (c : A → A → B) (a b : A) (at : ℕ) (rest : List ℕ) → (ok a && ok b) ≡ true
      → both p (λ _. p) c at ((enc a ++ enc b) ++ rest) ≡ took (c a b) (at + length (enc a ++ enc b)) rest
  two_back c a b at rest h =
      let w = and_parts (ok a) (ok b) h in
      both_back p (λ _. p) c enc (λ a. ok a ≡ true) codec a b (enc b) at rest w.0
      (codec.back b (at + length (enc a)) rest w.1)

  two_stops : {B : Type 0} (c : A → A → B) (at : ℕ) (bs : List ℕ) (r : Refusal) (q : ℕ)
      → both p (λ _. p) c at bs ≡ refused r q
      → by_number r ≡ true → Stops (both p (λ _. p) c) at bs r q
  two_stops c at bs r q t h =
      both_stops p (λ _. p) c enc (λ a. ok a ≡ true) codec at bs r q t h
      (λ a mid more ok e. codec.stops mid more r q e h)

operands_back : (i : ℕ) → i ≤ largest → (n : Node) (at : ℕ) (rest : List ℕ) → lawful_node i n ≡ true
    → operands i (kind_of n) at (operand_bytes n ++ rest) ≡ took n (at + length (operand_bytes n)) rest
operands_back i small (Equal a b) at rest h = two_back place place_bytes lawful_place place_codec
    (λ a b. Equal a b) a b at rest h
operands_back i small (Less a b) at rest h = two_back place place_bytes lawful_place place_codec
    (λ a b. Less a b) a b at rest h
operands_back i small (Bound v) at rest h =
    ap (λ m. next m (λ a after more. took (Bound a) after more)) (variable_codec.back v at rest h)
operands_back i small (Not a) at rest h =
    ap (λ m. next m (λ a after more. took (Not a) after more)) ((lower_codec i small).back a at rest h)
operands_back i small (And a b) at rest h =
    two_back (lower i) encode (λ a. ltb a i) (lower_codec i small) (λ a b. And a b) a b at rest h
operands_back i small (Or a b) at rest h =
    two_back (lower i) encode (λ a. ltb a i) (lower_codec i small) (λ a b. Or a b) a b at rest h

operands_only : (i : ℕ) → i ≤ largest
    → (k : Kind) (at : ℕ) (bs : List ℕ) (n : Node) (after : ℕ) (rest : List ℕ)
    → operands i k at bs ≡ took n after rest → Taken i k at bs after rest n
operands_only i small kind.Equal at bs n after rest t =
    let (a, (b, (e, w))) = two_only place place_bytes lawful_place place_codec (λ a b. Equal a b) at bs n
    after rest t in
    subst (Taken i kind.Equal at bs after rest) (sym e) ((refl, w.0), w.1.0, w.1.1)
operands_only i small kind.Less at bs n after rest t =
    let (a, (b, (e, w))) = two_only place place_bytes lawful_place place_codec (λ a b. Less a b) at bs n
    after rest t in
    subst (Taken i kind.Less at bs after rest) (sym e) ((refl, w.0), w.1.0, w.1.1)
operands_only i small kind.Bound at bs n after rest t =
    let (v, (e, w)) = one_only variable encode (within 0 most_variable) variable_codec (λ v. Bound v) at bs n
    after rest t in
    subst (Taken i kind.Bound at bs after rest) (sym e) ((refl, w.0), w.1.0, w.1.1)
operands_only i small kind.Not at bs n after rest t =
    let (a, (e, w)) = one_only (lower i) encode (λ a. ltb a i) (lower_codec i small) (λ a. Not a) at bs n
    after rest t in
    subst (Taken i kind.Not at bs after rest) (sym e) ((refl, w.0), w.1.0, w.1.1)
operands_only i small kind.And at bs n after rest t =
    let (a, (b, (e, w))) = two_only (lower i) encode (λ a. ltb a i) (lower_codec i small) (λ a b. And a b) at
    bs n after rest t in
    subst (Taken i kind.And at bs after rest) (sym e) ((refl, w.0), w.1.0, w.1.1)
operands_only i small kind.Or at bs n after rest t =
    let (a, (b, (e, w))) = two_only (lower i) encode (λ a. ltb a i) (lower_codec i small) (λ a b. Or a b) at
    bs n after rest t in
    subst (Taken i kind.Or at bs after rest) (sym e) ((refl, w.0), w.1.0, w.1.1)

operands_stops : (i : ℕ) → i ≤ largest → (k : Kind) (at : ℕ) (bs : List ℕ) (r : Refusal) (q : ℕ)
    → operands i k at bs ≡ refused r q → by_number r ≡ true → Stops (operands i k) at bs r q
operands_stops i small kind.Equal = two_stops place place_bytes lawful_place place_codec (λ a b. Equal a b)
operands_stops i small kind.Less = two_stops place place_bytes lawful_place place_codec (λ a b. Less a b)
operands_stops i small kind.Bound =
    λ at bs r q t h. one_stops variable (λ v. Bound v) at bs r q
    (variable_codec.stops at bs r q (one_refused variable (λ v. Bound v) at bs r q t) h)
operands_stops i small kind.Not =
    λ at bs r q t h. one_stops (lower i) (λ a. Not a) at bs r q
    ((lower_codec i small).stops at bs r q (one_refused (lower i) (λ a. Not a) at bs r q t) h)
operands_stops i small kind.And = two_stops (lower i) encode (λ a. ltb a i) (lower_codec i small)
    (λ a b. And a b)
operands_stops i small kind.Or = two_stops (lower i) encode (λ a. ltb a i) (lower_codec i small)
    (λ a b. Or a b)

operands_codec : (i : ℕ) → i ≤ largest → (k : Kind)
    → Codec (operands i k) operand_bytes (λ n. (kind_of n ≡ k) × (lawful_node i n ≡ true))
operands_codec i small k = record {
  back = λ n at rest h.
      ap (λ j. operands i j at (operand_bytes n ++ rest)) (sym h.0)
      ∙ operands_back i small n at rest h.1;
  only = operands_only i small k;
  stops = operands_stops i small k;
}

-- node

kind_codec : Codec (role NodeInvalid kind_from) (λ k. encode (number_of k)) (λ _. Unit {0})
kind_codec =
    role_codec NodeInvalid kind_from number_of (λ _. Unit {0}) (λ k _. (kind_back k, kind_small k))
    (λ n k l e. (tt, kind_found n k e))

pub node_codec : (i : ℕ) → i ≤ largest → Codec (node i) node_bytes (λ n. lawful_node i n ≡ true)
node_codec i small =
    codec_like (λ n. Unit {0} × ((kind_of n ≡ kind_of n) × (lawful_node i n ≡ true))) (λ n. lawful_node i n
    ≡ true)
    (λ n h. (tt, (refl, h))) (λ n h. h.1.1)
    (both_codec (role NodeInvalid kind_from) (operands i) (λ _ n. n)
    (λ k. encode (number_of k)) (λ _. Unit {0}) kind_codec
    operand_bytes (λ k n. (kind_of n ≡ k) × (lawful_node i n ≡ true)) (λ k _. operands_codec i small k)
    kind_of (λ n. n) (λ n. refl) (λ k n h. (h.0, refl)))
