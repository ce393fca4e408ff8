-- Laws of parts read one behind the other, and of so many items. Assumes nothing.
--     Each Ok step s xs   every element is Ok at the state that the ones before it lead to
use Rattle.std.proofs.Common.{◌≡◌, ℕ, zero, suc, ◌+◌, ◌-◌, ◌≤◌, true, List, [], ◌∷◌, ◌++◌, length, drop, sym}
use Rattle.std.proofs.Common.{refl, ap, ◌∙◌, subst, ⊎_elim, arith}
use Rattle.std.proofs.lemmas.List.{append_assoc, length-append, drop_at, drop-drop}
use Rattle.std.specs.List.{flat_map}
use Rattle.varint.specs.Encode.{encode, largest}
use Rattle.varint.specs.Decode.{span}
use Rattle.refusal.specs.declared.refusal.Refusal.{Refusal}
use Rattle.refusal.specs.declared.refusal.Refusal.TheVariants.{CountOutside}
use Rattle.query.specs.Limits.{within}
use Rattle.query.specs.Format.{counted}
use Rattle.query.specs.Readers.{took, refused, Reader, next, one, both, times, count, series}
use Rattle.query.specs.Theorems.{by_number}
use Rattle.query.proofs.Limits.{within_high}
use Rattle.query.proofs.Readers.{next_took, next_refused, Stops, Codec, tested_codec}

-- one

module _ {A B : Type 0} (p : Reader A) (c : A → B) where
  pub one_took : (at : ℕ) (bs : List ℕ) (x : B) (after : ℕ) (rest : List ℕ) → one p c at bs
      ≡ took x after rest
      → (a : A) × ((p at bs ≡ took a after rest) × (x ≡ c a))
  one_took at bs x after rest t =
      let s = next_took (p at bs) (λ a mid more. took (c a) mid more) x after rest t in
      let e = s.gives in
      let place : s.at ≡ after = cc in
      let behind : s.bytes ≡ rest = cc in (
        s.value,
        (
          s.was ∙ ap (λ n. took s.value n s.bytes) place
              ∙ ap (took s.value after) behind,
          cc,
        ),
      )

  pub one_refused : (at : ℕ) (bs : List ℕ) (r : Refusal) (q : ℕ) → one p c at bs ≡ refused r q → p at bs
      ≡ refused r q
  one_refused at bs r q t =
      ⊎_elim (λ e. e)
      (λ s. let e = s.gives in let z : ◌≡◌ {A = ℕ} 0 1 = cc in absurd (omega arith))
      (next_refused (p at bs) (λ a mid more. took (c a) mid more) r q t)

  pub one_stops : (at : ℕ) (bs : List ℕ) (r : Refusal) (q : ℕ) → Stops p at bs r q → Stops (one p c) at bs r q
  one_stops at bs r q s = record {
    used = s.used;
    rest = s.rest;
    parted = s.parted;
    alike = λ other. ap (λ m. next m (λ a mid more. took (c a) mid more)) (s.alike other);
    reached = s.reached;
    ends = s.ends;
  }

-- both

-- what two parts took, one behind the other
pub record Pair {A B C : Type 0} (p : Reader A) (q : A → Reader B) (c : A → B → C) (at : ℕ) (bs : List ℕ)
    (x : C) (after : ℕ)
    (rest : List ℕ) : Type 0 where
  pub first : A
  pub second : B
  pub middle : ℕ
  pub between : List ℕ
  pub first_took : p at bs ≡ took first middle between
  pub second_took : q first middle between ≡ took second after rest
  pub made : x ≡ c first second

module _ {A B C : Type 0} (p : Reader A) (q : A → Reader B) (c : A → B → C) where
  pub both_took : (at : ℕ) (bs : List ℕ) (x : C) (after : ℕ) (rest : List ℕ) → both p q c at bs
      ≡ took x after rest
      → Pair p q c at bs x after rest
  both_took at bs x after rest t =
      let s = next_took (p at bs) (λ a mid more. one (q a) (c a) mid more) x after rest t in
      let e = one_took (q s.value) (c s.value) s.at s.bytes x after rest s.gives in
      record {
        first = s.value;
        second = e.0;
        middle = s.at;
        between = s.bytes;
        first_took = s.was;
        second_took = e.1.0;
        made = e.1.1;
      }

  -- both parts read from where they stand
  both_from : (at mid : ℕ) (bs more : List ℕ) (a : A) (b : B) (after : ℕ) (rest : List ℕ) → p at bs
      ≡ took a mid more
      → q a mid more ≡ took b after rest → both p q c at bs ≡ took (c a b) after rest
  both_from at mid bs more a b after rest e f =
      ap (λ m. next m (λ y n l. one (q y) (c y) n l)) e ∙ ap (λ m. next m (λ y n l. took (c a y) n l)) f

  module _ (enc : A → List ℕ) (Ok : A → Type 0) (first : Codec p enc Ok) where
    -- both parts written one behind the other
    pub both_back : (a : A) (b : B) (code : List ℕ) (at : ℕ) (rest : List ℕ) → Ok a
        → q a (at + length (enc a)) (code ++ rest) ≡ took b (at + length (enc a) + length code) rest
        → both p q c at ((enc a ++ code) ++ rest) ≡ took (c a b) (at + length (enc a ++ code)) rest
    both_back a b code at rest h e =
        ap (both p q c at) (append_assoc (enc a) code rest)
        ∙ both_from at (at + length (enc a)) (enc a ++ (code ++ rest)) (code ++ rest) a b
        (at + length (enc a) + length code) rest
        (first.back a at (code ++ rest) h) e
        ∙ ap (λ n. took (c a b) n rest) (omega (arith, length-append (enc a) code))

    pub both_stops : (at : ℕ) (bs : List ℕ) (r : Refusal) (z : ℕ) → both p q c at bs ≡ refused r z
        → by_number r ≡ true
        → ((a : A) (mid : ℕ) (more : List ℕ) → Ok a → q a mid more ≡ refused r z → Stops (q a) mid more r z)
        → Stops (both p q c) at bs r z
    both_stops at bs r z t h later =
        ⊎_elim
        (λ e. let s = first.stops at bs r z e h in record {
          used = s.used;
          rest = s.rest;
          parted = s.parted;
          alike = λ other. ap (λ m. next m (λ y n l. one (q y) (c y) n l)) (s.alike other);
          reached = s.reached;
          ends = s.ends;
        })
        (λ s.
        let a = s.value in
        let law = first.only at bs a s.at s.bytes s.was in
        let fails = one_refused (q a) (c a) s.at s.bytes r z s.gives in
        let i = one_stops (q a) (c a) s.at s.bytes r z (later a s.at s.bytes law.0 fails) in
        let k = length (enc a) in
        let apart : z - at ≡ k + (z - s.at) = omega (arith, law.2, i.reached) in
        let skipped : drop (z - at) bs ≡ drop (z - s.at) s.bytes =
        ap (λ n. drop n bs) apart ∙ sym (drop-drop (z - s.at) k bs)
        ∙ ap (λ l. drop (z - s.at) (drop k l)) law.1
        ∙ ap (drop (z - s.at)) (drop_at (enc a) s.bytes k refl) in
        record {
          used = enc a ++ i.used;
          rest = i.rest;
          parted = law.1 ∙ ap (λ l. enc a ++ l) i.parted ∙ sym (append_assoc (enc a) i.used i.rest);
          alike = λ other.
              ap (both p q c at) (append_assoc (enc a) i.used other)
              ∙ ap (λ m. next m (λ y n l. one (q y) (c y) n l)) (first.back a at (i.used ++ other) law.0)
              ∙ ap (λ n. one (q a) (c a) n (i.used ++ other)) (sym law.2)
              ∙ i.alike other;
          reached = omega (arith, law.2, i.reached);
          ends = omega (arith, length-append (enc a) i.used, i.ends, law.2, ap span skipped);
        })
        (next_refused (p at bs) (λ a mid more. one (q a) (c a) mid more) r z t)

    -- two parts make a codec where what they make can be taken apart again
    pub both_codec : (enc_b : B → List ℕ) (OkB : A → B → Type 0) (second : (a : A) → Ok a
        → Codec (q a) enc_b (OkB a))
        (left : C → A) (right : C → B)
        → ((x : C) → c (left x) (right x) ≡ x)
        → ((a : A) (b : B) → OkB a b → (left (c a b) ≡ a) × (right (c a b) ≡ b))
        → Codec (both p q c) (λ x. enc (left x) ++ enc_b (right x)) (λ x. Ok (left x) × OkB (left x) (right
        x))
    both_codec enc_b OkB second left right whole apart = record {
      back = λ x at rest h.
          both_back (left x) (right x) (enc_b (right x)) at rest h.0
          ((second (left x) h.0).back (right x) (at + length (enc (left x))) rest h.1)
          ∙ ap (λ y. took y (at + length (enc (left x) ++ enc_b (right x))) rest) (whole x);
      only = λ at bs x after rest t.
          let s = both_took at bs x after rest t in
          let f = first.only at bs s.first s.middle s.between s.first_took in
          let g = (second s.first f.0).only s.middle s.between s.second after rest
          s.second_took in
          let parts = apart s.first s.second g.0 in
          let l : left x ≡ s.first = ap left s.made ∙ parts.0 in
          let r : right x ≡ s.second = ap right s.made ∙ parts.1 in
          let code : enc (left x) ++ enc_b (right x) ≡ enc s.first ++ enc_b s.second =
          ap (λ a. enc a ++ enc_b (right x)) l ∙ ap (λ b. enc s.first ++ enc_b b) r in (
            (
              subst Ok (sym l) f.0,
              subst (λ a. OkB a (right x)) (sym l)
                  (subst (OkB s.first) (sym r) g.0),
            ),
            f.1 ∙ ap (λ y. enc s.first ++ y) g.1
                ∙ sym (append_assoc (enc s.first) (enc_b s.second) rest)
                ∙ ap (λ y. y ++ rest) (sym code),
            omega (arith, f.2, g.2, length-append (enc s.first) (enc_b s.second), ap length code),
          );
      stops = λ at bs r z t h.
          both_stops at bs r z t h (λ a mid more ok e. (second a ok).stops mid more r z e h);
    }

-- times

-- each element is Ok at the state that the ones before it lead to
abbrev pub Each : {S A : Type 0} → (S → A → Type 0) → (S → A → S) → S → List A → Type 0
Each Ok step s [] = Unit {0}
Each Ok step s (x ∷ xs) = Ok s x × Each Ok step (step s x) xs

-- Good n s: from the state s, n items can be read
module _ {S A : Type 0} (item : S → Reader A) (step : S → A → S) (enc : A → List ℕ) (Ok : S → A → Type 0)
    (Good : ℕ → S → Type 0) (goes : (n : ℕ) (s : S) (a : A) → Good (suc n) s → Ok s a → Good n (step s a))
    (items : (n : ℕ) (s : S) → Good (suc n) s → Codec (item s) enc (Ok s)) where
  times_back : (n : ℕ) (s : S) (xs : List A) (at : ℕ) (rest : List ℕ) → Good n s → length xs ≡ n
      → Each Ok step s xs
      → times n item step s at (flat_map enc xs ++ rest) ≡ took xs (at + length (flat_map enc xs)) rest
  times_back zero s [] at rest good l h = ap (λ n. took [] n rest) (omega arith)
  times_back zero s (x ∷ xs) at rest good l h = absurd (omega arith)
  times_back (suc n) s [] at rest good l h = absurd (omega arith)
  times_back (suc n) s (x ∷ xs) at rest good l h =
      both_back (item s) (λ a. times n item step (step s a)) ◌∷◌ enc (Ok s) (items n s good) x xs
      (flat_map enc xs) at rest h.0
      (times_back n (step s x) xs (at + length (enc x)) rest (goes n s x good h.0) (omega arith) h.1)

  times_only : (n : ℕ) (s : S) (at : ℕ) (bs : List ℕ) (xs : List A) (after : ℕ) (rest : List ℕ)
      → Good n s → times n item step s at bs ≡ took xs after rest
      → ((length xs ≡ n) × Each Ok step s xs) × (bs ≡ flat_map enc xs ++ rest)
      × (after ≡ at + length (flat_map enc xs))
  times_only zero s at bs xs after rest good t =
      let e : [] ≡ xs = cc in
      let behind : bs ≡ rest = cc in
      let place : at ≡ after = cc in
      subst (λ ys. ((length ys ≡ 0) × Each Ok step s ys) × (bs ≡ flat_map enc ys ++ rest)
      × (after ≡ at + length (flat_map enc ys))) e
      ((refl, tt), behind, omega arith)
  times_only (suc n) s at bs xs after rest good t =
      let r = both_took (item s) (λ a. times n item step (step s a)) ◌∷◌ at bs xs after rest t in
      let x = r.first in
      let ys = r.second in
      let f = (items n s good).only at bs x r.middle r.between r.first_took in
      let g = times_only n (step s x) r.middle r.between ys after rest (goes n s x good f.0)
      r.second_took in
      subst
      (λ zs. ((length zs ≡ suc n) × Each Ok step s zs) × (bs ≡ flat_map enc zs ++ rest)
      × (after ≡ at + length (flat_map enc zs)))
      (sym r.made) (
        (ap suc g.0.0, (f.0, g.0.1)),
        f.1 ∙ ap (λ l. enc x ++ l) g.1 ∙ sym (append_assoc (enc x) (flat_map enc ys) rest),
        omega (arith, f.2, g.2, length-append (enc x) (flat_map enc ys)),
      )

  times_stops : (n : ℕ) (s : S) (at : ℕ) (bs : List ℕ) (r : Refusal) (q : ℕ) → Good n s
      → times n item step s at bs ≡ refused r q
      → by_number r ≡ true → Stops (times n item step s) at bs r q
  times_stops zero s at bs r q good t h = let z : ◌≡◌ {A = ℕ} 0 1 = cc in absurd (omega arith)
  times_stops (suc n) s at bs r q good t h =
      let i = both_stops (item s) (λ a. times n item step (step s a)) ◌∷◌ enc (Ok s) (items n s good) at bs r
      q t h
      (λ a mid more ok e. times_stops n (step s a) mid more r q (goes n s a good ok) e h) in
      record {
        used = i.used;
        rest = i.rest;
        parted = i.parted;
        alike = i.alike;
        reached = i.reached;
        ends = i.ends;
      }

  pub times_codec : (n : ℕ) (s : S) → Good n s
      → Codec (times n item step s) (flat_map enc) (λ xs. (length xs ≡ n) × Each Ok step s xs)
  times_codec n s good = record {
    back = λ xs at rest h. times_back n s xs at rest good h.0 h.1;
    only = λ at bs xs after rest t. times_only n s at bs xs after rest good t;
    stops = λ at bs r q t h. times_stops n s at bs r q good t h;
  }

-- series

pub count_codec : (low high : ℕ) → high ≤ largest
    → Codec (count low high) encode (λ n. within low high n ≡ true)
count_codec low high h =
    tested_codec CountOutside (within low high)
    (λ n w. omega (arith, within_high low high n w))

module _ {S A : Type 0} (item : S → Reader A) (step : S → A → S) (enc : A → List ℕ) (Ok : S → A → Type 0)
    (Good : ℕ → S → Type 0) (goes : (n : ℕ) (s : S) (a : A) → Good (suc n) s → Ok s a → Good n (step s a))
    (items : (n : ℕ) (s : S) → Good (suc n) s → Codec (item s) enc (Ok s)) (low high : ℕ)
    (small : high ≤ largest) where
  pub series_codec : (s : S) → ((n : ℕ) → n ≤ high → Good n s)
      → Codec (series low high item step s) (counted enc)
      (λ xs. (within low high (length xs) ≡ true) × ((length xs ≡ length xs) × Each Ok step s xs))
  series_codec s good =
      both_codec (count low high) (λ n. times n item step s) (λ n xs. xs)
      encode (λ n. within low high n ≡ true) (count_codec low high small)
      (flat_map enc) (λ n xs. (length xs ≡ n) × Each Ok step s xs)
      (λ n w. times_codec item step enc Ok Good goes items n s
      (good n (within_high low high n w)))
      length (λ xs. xs) (λ xs. refl) (λ n xs h. (h.0, refl))
