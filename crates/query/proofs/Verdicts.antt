-- What the grammar's laws say of whole byte strings. Assumes nothing.
use Rattle.std.proofs.Common.{◌≡◌, ◌≢◌, ℕ, ◌+◌, ◌-◌, Bool, true, false, cond, not, List, [], ◌∷◌, ◌++◌, ◌==◌}
use Rattle.std.proofs.Common.{length, take, drop, sym, refl, ap, ◌∙◌, subst, arith}
use Rattle.std.proofs.lemmas.List.{append-nil, take_at, take-append-drop}
use Rattle.std.proofs.lemmas.Bool.{and_parts, and_from, not-true, not_from_false, both_ways, eqb-true}
use Rattle.varint.specs.Decode.{span}
use Rattle.refusal.specs.declared.refusal.Refusal.{Refusal}
use Rattle.refusal.specs.declared.refusal.Refusal.TheVariants.{BytesLeft, SharedByBlocks}
use Rattle.query.specs.Parts.{Group}
use Rattle.query.specs.Format.{bytes_of}
use Rattle.std.specs.List.{list_any}
use Rattle.query.specs.Lawful.{limited, lawful, shares}
use Rattle.query.specs.Grammar.{alternatives, accepted, rejected, concluded}
use Rattle.query.specs.Readers.{Read, took, refused}
use Rattle.query.specs.Grammar.{verdict}
use Rattle.query.specs.Theorems.{AcceptedExactly, OneWritingEach, by_number, number_end, RefusedForGood}
use Rattle.query.proofs.Parts.{alternatives_codec}

-- verdict

pub verdict_refused : (bytes : List ℕ) (r : Refusal) (at : ℕ) → alternatives 0 bytes ≡ refused r at
    → verdict bytes ≡ rejected r at
unfolding verdict
verdict_refused bytes r at e = ap concluded e

-- what is left, by whether it is empty

pub nothing_left : (rest : List ℕ) → true ≡ (length rest == 0) → rest ≡ []
nothing_left [] e = refl
nothing_left (b ∷ bs) e = absurd (omega (arith, eqb-true (length (b ∷ bs)) 0 (sym e)))

pub something_left : (rest : List ℕ) → false ≡ (length rest == 0) → rest ≢ []
something_left rest e none = both_ways _ (sym e) (ap (λ l. length l == 0) none)

left : (q : List Group) (at : ℕ) (rest : List ℕ) → rest ≢ [] → concluded (took q at rest) ≡ rejected
    BytesLeft at
left q at [] more = absurd (more refl)
left q at (b ∷ bs) more = refl

pub verdict_left : (bytes : List ℕ) (q : List Group) (at : ℕ) (rest : List ℕ)
    → alternatives 0 bytes ≡ took q at rest → rest ≢ [] → verdict bytes ≡ rejected BytesLeft at
unfolding verdict
verdict_left bytes q at rest e more = ap concluded e ∙ left q at rest more

verdict_all : (bytes : List ℕ) (q : List Group) (at : ℕ) (rest : List ℕ)
    → alternatives 0 bytes ≡ took q at rest → rest ≡ []
    → verdict bytes ≡ cond (list_any shares q) (rejected SharedByBlocks at) (accepted q)
unfolding verdict
verdict_all bytes q at rest e none = ap concluded (e ∙ ap (took q at) none)

pub verdict_shared : (bytes : List ℕ) (q : List Group) (at : ℕ) (rest : List ℕ)
    → alternatives 0 bytes ≡ took q at rest → rest ≡ []
    → list_any shares q ≡ true → verdict bytes ≡ rejected SharedByBlocks at
verdict_shared bytes q at rest e none s = verdict_all bytes q at rest e none
    ∙ ap (λ b. cond b (rejected SharedByBlocks at) (accepted q)) s

pub verdict_accepted : (bytes : List ℕ) (q : List Group) (at : ℕ) (rest : List ℕ)
    → alternatives 0 bytes ≡ took q at rest → rest ≡ []
    → list_any shares q ≡ false → verdict bytes ≡ accepted q
verdict_accepted bytes q at rest e none s = verdict_all bytes q at rest e none
    ∙ ap (λ b. cond b (rejected SharedByBlocks at) (accepted q)) s

-- accepted

shared_apart : (b : Bool) (q p : List Group) (at : ℕ) → cond b (rejected SharedByBlocks at) (accepted q)
    ≡ accepted p
    → (b ≡ false) × (q ≡ p)
shared_apart true q p at e = let z : ◌≡◌ {A = ℕ} 0 1 = cc in absurd (omega arith)
shared_apart false q p at e = (refl, cc)

concluded_accepted : (m : Read (List Group)) (q : List Group) → concluded m ≡ accepted q
    → (at : ℕ) × ((m ≡ took q at []) × (list_any shares q ≡ false))
concluded_accepted (refused r at) q e = let z : ◌≡◌ {A = ℕ} 0 1 = cc in absurd (omega arith)
concluded_accepted (took p at (b ∷ bs)) q e = let z : ◌≡◌ {A = ℕ} 0 1 = cc in absurd (omega arith)
concluded_accepted (took p at []) q e =
    let s = shared_apart (list_any shares p) p q at e in
    (at, (ap (λ x. took x at []) s.1, ap (list_any shares) (sym s.1) ∙ s.0))

pub accepted_is_written : (bytes : List ℕ) (q : List Group) → verdict bytes ≡ accepted q → (lawful q ≡ true)
    × (bytes ≡ bytes_of q)
unfolding verdict
accepted_is_written bytes q e =
    let (at, (t, apart)) = concluded_accepted (alternatives 0 bytes) q e in
    let law = alternatives_codec.only 0 bytes q at [] t in
    (and_from _ _ law.0 (not_from_false (list_any shares q) apart), law.1 ∙ append-nil (bytes_of q))

pub written_is_accepted : (bytes : List ℕ) (q : List Group) → lawful q ≡ true → bytes ≡ bytes_of q
    → verdict bytes ≡ accepted q
unfolding verdict
written_is_accepted bytes q h e =
    let w = and_parts (limited q) (not (list_any shares q)) h in
    ap (λ l. concluded (alternatives 0 l)) (e ∙ sym (append-nil (bytes_of q)))
    ∙ ap concluded (alternatives_codec.back q 0 [] w.0)
    ∙ ap (λ b. cond b (rejected SharedByBlocks (0 + length (bytes_of q))) (accepted q))
    (not-true (list_any shares q) w.1)

pub accepted_exactly : AcceptedExactly
accepted_exactly bytes q = (accepted_is_written bytes q, written_is_accepted bytes q)

pub one_writing_each : OneWritingEach
one_writing_each = (
  λ bytes other q e f. (accepted_is_written bytes q e).1 ∙ sym (accepted_is_written other q f).1,
  λ q r h k e.
      let x = written_is_accepted (bytes_of q) q h refl in
      let y = written_is_accepted (bytes_of q) r k e in
      let z : accepted q ≡ accepted r = sym x ∙ y in cc,
)

-- refused

shared_number : (b : Bool) (q : List Group) (at : ℕ) (r : Refusal) (z : ℕ)
    → cond b (rejected SharedByBlocks at) (accepted q) ≡ rejected r z → r ≡ SharedByBlocks
shared_number true q at r z e = cc
shared_number false q at r z e = let y : ◌≡◌ {A = ℕ} 0 1 = cc in absurd (omega arith)

none_by_number : by_number SharedByBlocks ≡ true → ⊥
none_by_number e = let f : false ≡ true = e in let y : ◌≡◌ {A = ℕ} 0 1 = cc in omega arith

concluded_refused : (m : Read (List Group)) (r : Refusal) (z : ℕ) → concluded m ≡ rejected r z → by_number r
    ≡ true → m ≡ refused r z
concluded_refused (refused r' at) r z e h = cc
concluded_refused (took p at (b ∷ bs)) r z e h =
    let r_is : r ≡ BytesLeft = cc in
    let f : false ≡ true = subst (λ s. by_number s ≡ true) r_is h in
    let y : ◌≡◌ {A = ℕ} 0 1 = cc in absurd (omega arith)
concluded_refused (took p at []) r z e h =
    absurd (none_by_number (subst (λ s. by_number s ≡ true) (shared_number (list_any shares p) p at r z e) h))

pub refused_for_good : RefusedForGood
unfolding verdict
refused_for_good bytes other r at e h agree =
    let s = alternatives_codec.stops 0 bytes r at (concluded_refused (alternatives 0 bytes) r at e h) h in
    let all : at - 0 ≡ at = omega arith in
    let long : length s.used
    ≡ number_end at bytes = omega (arith, s.ends, ap (λ n. span (drop n bytes)) all) in
    let front : take (number_end at bytes) bytes ≡ s.used =
    ap (take (number_end at bytes)) s.parted ∙ take_at s.used s.rest (number_end at bytes) long in
    let split : s.used ++ drop (number_end at bytes) other ≡ other =
    ap (λ l. l ++ drop (number_end at bytes) other) (sym (agree ∙ front))
    ∙ take-append-drop (number_end at bytes) other in
    ap (λ l. concluded (alternatives 0 l)) (sym split)
    ∙ ap concluded (s.alike (drop (number_end at bytes) other))
