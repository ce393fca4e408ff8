-- Laws of the grammar's combinators: a reader and a writing that fit each other. Assumes nothing.
--     Stops p at bs r q   p refuses a number of bs for what it is, whatever stands behind that number
--     Codec p enc Ok      p takes exactly the writings of what is Ok, and a refusal of one number is for good
use Rattle.std.proofs.Common.{◌≡◌, ℕ, ◌+◌, ◌-◌, ◌≤◌, Bool, true, false, ◌⊎◌, List, ◌++◌, length, take, drop}
use Rattle.std.proofs.Common.{Some, None, Option, sym, refl, ap, ◌∙◌, subst, inl, inr, ⊎_elim, arith}
use Rattle.std.proofs.lemmas.List.{drop_at, take-append-drop, length-take-le}
use Rattle.varint.specs.Encode.{encode, largest}
use Rattle.varint.specs.Decode.{Decoded, ends_early, malformed, decoded, decode, span}
use Rattle.varint.proofs.Laws.{decode-encode, encode-decode, span_decoded, malformed_stays, span_malformed}
use Rattle.refusal.specs.declared.refusal.Refusal.{Refusal}
use Rattle.refusal.specs.declared.refusal.Refusal.TheVariants.{EndsEarly}
use Rattle.query.specs.Readers.{Read, took, refused, Reader, next, numbered, number, meant, role}
use Rattle.query.specs.Codes.{when}
use Rattle.query.specs.Theorems.{by_number}

-- next

-- what was handed on: the value taken first, and what became of it
pub record Step {A B : Type 0} (m : Read A) (k : A → ℕ → List ℕ → Read B) (out : Read B) : Type 0 where
  pub value : A
  pub at : ℕ
  pub bytes : List ℕ
  pub was : m ≡ took value at bytes
  pub gives : k value at bytes ≡ out

pub next_took : {A B : Type 0} (m : Read A) (k : A → ℕ → List ℕ → Read B) (x : B) (after : ℕ) (rest : List ℕ)
    → next m k ≡ took x after rest → Step m k (took x after rest)
next_took (took a at bs) k x after rest e = record { value = a; at = at; bytes = bs; was = refl; gives = e }
next_took (refused r at) k x after rest e = let z : ◌≡◌ {A = ℕ} 0 1 = cc in absurd (omega arith)

pub next_refused : {A B : Type 0} (m : Read A) (k : A → ℕ → List ℕ → Read B) (r : Refusal) (q : ℕ)
    → next m k ≡ refused r q → (m ≡ refused r q) ⊎ Step m k (refused r q)
next_refused (took a at bs) k r q e = inr (record { value = a; at = at; bytes = bs; was = refl; gives = e })
next_refused (refused r' at) k r q e = inl (cc)

-- codecs

-- p refuses a number of bs for what it is: the bytes up to its end give that refusal, whatever stands behind
pub record Stops {A : Type 0} (p : Reader A) (at : ℕ) (bs : List ℕ) (r : Refusal) (q : ℕ) : Type 0 where
  pub used : List ℕ
  pub rest : List ℕ
  pub parted : bs ≡ used ++ rest
  pub alike : (other : List ℕ) → p at (used ++ other) ≡ refused r q
  pub reached : at ≤ q
  pub ends : at + length used ≡ q + span (drop (q - at) bs)

pub record Codec {A : Type 0} (p : Reader A) (enc : A → List ℕ) (Ok : A → Type 0) : Type 0 where
  pub back : (a : A) (at : ℕ) (rest : List ℕ) → Ok a → p at (enc a ++ rest)
      ≡ took a (at + length (enc a)) rest
  pub only : (at : ℕ) (bs : List ℕ) (a : A) (after : ℕ) (rest : List ℕ) → p at bs ≡ took a after rest
      → Ok a × (bs ≡ enc a ++ rest) × (after ≡ at + length (enc a))
  pub stops : (at : ℕ) (bs : List ℕ) (r : Refusal) (q : ℕ) → p at bs ≡ refused r q → by_number r ≡ true
      → Stops p at bs r q

-- the same codec, under another name for what is Ok
pub codec_like : {A : Type 0} {p : Reader A} {enc : A → List ℕ} (Ok Like : A → Type 0)
    → ((a : A) → Like a → Ok a)
    → ((a : A) → Ok a → Like a) → Codec p enc Ok → Codec p enc Like
codec_like Ok Like there home codec = record {
  back = λ a at rest h. codec.back a at rest (there a h);
  only = λ at bs a after rest t. let law = codec.only at bs a after rest t in
      (home a law.0, law.1, law.2);
  stops = codec.stops;
}

-- number

number_at : (at : ℕ) (bs : List ℕ) (d : Decoded) (a after : ℕ) (rest : List ℕ) → decode bs ≡ d
    → numbered at bs d ≡ took a after rest
    → (a ≤ largest) × (bs ≡ encode a ++ rest) × (after ≡ at + length (encode a))
number_at at bs ends_early a after rest e t = let z : ◌≡◌ {A = ℕ} 0 1 = cc in absurd (omega arith)
number_at at bs malformed a after rest e t = let z : ◌≡◌ {A = ℕ} 0 1 = cc in absurd (omega arith)
number_at at bs (decoded n k) a after rest e t =
    let law = encode-decode bs n k e in
    let same : n ≡ a = cc in
    let behind : drop k bs ≡ rest = cc in
    let place : at + k ≡ after = cc in (
      subst (λ m. m ≤ largest) same law.0,
      law.1 ∙ ap (λ m. encode m ++ drop k bs) same ∙ ap (λ l. encode a ++ l) behind,
      sym place ∙ ap (λ m. at + m) law.2 ∙ ap (λ m. at + length (encode m)) same,
    )

number_stops : (at : ℕ) (bs : List ℕ) (d : Decoded) (r : Refusal) (q : ℕ) → decode bs ≡ d → numbered at bs d
    ≡ refused r q
    → by_number r ≡ true → Stops number at bs r q
number_stops at bs ends_early r q e t h =
    let r_is : r ≡ EndsEarly = cc in
    let false_is : by_number EndsEarly ≡ true = subst (λ s. by_number s ≡ true) r_is h in
    let z : false ≡ true = false_is in
    let y : ◌≡◌ {A = ℕ} 0 1 = cc in absurd (omega arith)
number_stops at bs malformed r q e t h =
    let q_is : at ≡ q = cc in
    record {
      used = take (span bs) bs;
      rest = drop (span bs) bs;
      parted = sym (take-append-drop (span bs) bs);
      alike = λ other. ap (λ d. numbered at (take (span bs) bs ++ other) d) (malformed_stays bs other e) ∙ t;
      reached = omega arith;
      ends =
          let none : q - at ≡ 0 = omega arith in
          let long = length-take-le (span bs) bs (span_malformed bs e).1 in
          let same = ap (λ n. span (drop n bs)) none in
          omega (arith, long, same);
    }
number_stops at bs (decoded n k) r q e t h = let z : ◌≡◌ {A = ℕ} 0 1 = cc in absurd (omega arith)

pub number_codec : Codec number encode (λ n. n ≤ largest)
number_codec = record {
  back = λ n at rest h.
      ap (numbered at (encode n ++ rest)) (decode-encode n rest h)
      ∙ ap (took n (at + length (encode n))) (drop_at (encode n) rest (length (encode n)) refl);
  only = λ at bs a after rest t. number_at at bs (decode bs) a after rest refl t;
  stops = λ at bs r q t h. number_stops at bs (decode bs) r q refl t h;
}

-- when

pub when_some : {A : Type 0} (b : Bool) (x y : A) → when b x ≡ Some y → (b ≡ true) × (y ≡ x)
when_some true x y e = (refl, cc)
when_some false x y e = let z : ◌≡◌ {A = ℕ} 0 1 = cc in absurd (omega arith)

-- role

module _ {A : Type 0} (why : Refusal) (f : ℕ → Option A) (g : A → ℕ) (Ok : A → Type 0)
    (forth : (a : A) → Ok a → (f (g a) ≡ Some a) × (g a ≤ largest))
    (home : (n : ℕ) (a : A) → n ≤ largest → f n ≡ Some a → Ok a × (g a ≡ n)) where
  meant_took : (at : ℕ) (o : Option A) (mid : ℕ) (bs : List ℕ) (a : A) (after : ℕ) (rest : List ℕ)
      → meant why at o mid bs ≡ took a after rest → (o ≡ Some a) × (mid ≡ after) × (bs ≡ rest)
  meant_took at None mid bs a after rest e = let z : ◌≡◌ {A = ℕ} 0 1 = cc in absurd (omega arith)
  meant_took at (Some b) mid bs a after rest e = (cc, cc, cc)

  meant_refused : (at : ℕ) (o : Option A) (mid : ℕ) (bs : List ℕ) (r : Refusal) (q : ℕ)
      → meant why at o mid bs ≡ refused r q → (o ≡ None) × (why ≡ r) × (at ≡ q)
  meant_refused at None mid bs r q e = (refl, cc, cc)
  meant_refused at (Some b) mid bs r q e = let z : ◌≡◌ {A = ℕ} 0 1 = cc in absurd (omega arith)

  role_back : (a : A) (at : ℕ) (rest : List ℕ) → Ok a
      → role why f at (encode (g a) ++ rest) ≡ took a (at + length (encode (g a))) rest
  role_back a at rest h =
      ap (λ m. next m (λ n after bs. meant why at (f n) after bs))
      (number_codec.back (g a) at rest (forth a h).1)
      ∙ ap (λ o. meant why at o (at + length (encode (g a))) rest) (forth a h).0

  role_only : (at : ℕ) (bs : List ℕ) (a : A) (after : ℕ) (rest : List ℕ) → role why f at bs
      ≡ took a after rest
      → Ok a × (bs ≡ encode (g a) ++ rest) × (after ≡ at + length (encode (g a)))
  role_only at bs a after rest t =
      let s = next_took (number at bs) (λ n mid more. meant why at (f n) mid more) a after rest t in
      let law = number_codec.only at bs s.value s.at s.bytes s.was in
      let m = meant_took at (f s.value) s.at s.bytes a after rest s.gives in
      let h = home s.value a law.0 m.0 in (
        h.0,
        law.1 ∙ ap (λ n. encode n ++ s.bytes) (sym h.1) ∙ ap (λ l. encode (g a) ++ l) m.2,
        sym m.1 ∙ law.2 ∙ ap (λ n. at + length (encode n)) (sym h.1),
      )

  role_alike : (v at : ℕ) (other : List ℕ) (r : Refusal) (q : ℕ) → v ≤ largest
      → (f v ≡ None) × (why ≡ r) × (at ≡ q) → role why f at (encode v ++ other) ≡ refused r q
  role_alike v at other r q few m =
      ap (λ t. next t (λ n after more. meant why at (f n) after more)) (number_codec.back v at other few)
      ∙ ap (λ o. meant why at o (at + length (encode v)) other) m.0
      ∙ ap (λ w. refused w at) m.1 ∙ ap (refused r) m.2

  role_stops : (at : ℕ) (bs : List ℕ) (r : Refusal) (q : ℕ) → role why f at bs ≡ refused r q → by_number r
      ≡ true
      → Stops (role why f) at bs r q
  role_stops at bs r q t h =
      ⊎_elim
      (λ e. let s = number_codec.stops at bs r q e h in record {
        used = s.used;
        rest = s.rest;
        parted = s.parted;
        alike = λ other. ap (λ m. next m (λ n after more. meant why at (f n) after more)) (s.alike other);
        reached = s.reached;
        ends = s.ends;
      })
      (λ s.
      let law = number_codec.only at bs s.value s.at s.bytes s.was in
      let m = meant_refused at (f s.value) s.at s.bytes r q s.gives in
      let none : q - at ≡ 0 = omega (arith, m.2) in
      let k = length (encode s.value) in
      let spans : span bs ≡ k =
      ap span law.1 ∙ span_decoded (encode s.value ++ s.bytes) s.value k
      (decode-encode s.value s.bytes law.0) in
      record {
        used = encode s.value;
        rest = s.bytes;
        parted = law.1;
        alike = λ other. role_alike s.value at other r q law.0 m;
        reached = omega (arith, m.2);
        ends = omega (arith, m.2, spans, ap (λ n. span (drop n bs)) none);
      })
      (next_refused (number at bs) (λ n mid more. meant why at (f n) mid more) r q t)

  pub role_codec : Codec (role why f) (λ a. encode (g a)) Ok
  role_codec = record { back = role_back; only = role_only; stops = role_stops }

-- a number that passes a test
pub tested_codec : (why : Refusal) (test : ℕ → Bool) → ((n : ℕ) → test n ≡ true → n ≤ largest)
    → Codec (role why (λ n. when (test n) n)) encode (λ n. test n ≡ true)
tested_codec why test bound =
    role_codec why (λ n. when (test n) n) (λ n. n) (λ n. test n ≡ true)
    (λ n t. (ap (λ b. when b n) t, bound n t))
    (λ n a l e. let w = when_some (test n) n a e in (subst (λ m. test m ≡ true) (sym w.1) w.0, w.1))
