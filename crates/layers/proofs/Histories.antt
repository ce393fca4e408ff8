-- What is withdrawn is in the store below, whatever was called. Assumes nothing.
use Rattle.std.proofs.Common.{◌≡◌, Bool, true, false, cond, List, [], ◌∷◌, ◌++◌, is_ok, Some, None, sym, refl}
use Rattle.std.proofs.Common.{ap, ◌∙◌, ⊎_elim, subst}
use Rattle.std.proofs.lemmas.Bool.{and_parts, or_cases, false≢true}
use Rattle.refusal.specs.declared.refusal.Refusal.TheVariants.{AlreadyWithdrawn, NotStored, WithdrawnFull}
use Rattle.triples.specs.declared.triple.Triple.{Triple}
use Rattle.triples.specs.Meaning.{Meaning, among}
use Rattle.triples.specs.Order.{same}
use Rattle.triples.proofs.Order.{same_is}
use Rattle.layers.specs.Histories.{After, RestoredIsThere}
use Rattle.layers.specs.Sets.{Removed}
use Rattle.layers.specs.Withdrawals.{without, amended, outcome}
use Rattle.layers.proofs.Sets.{among_push}

-- what is not refused is in the store below
ok_stored : (away stored room : Bool)
    → is_ok (outcome (cond away (Some AlreadyWithdrawn)
    (cond stored (cond room None (Some WithdrawnFull)) (Some NotStored)))) ≡ true
    → stored ≡ true
ok_stored true stored room e = absurd (false≢true e)
ok_stored false true room e = refl
ok_stored false false room e = absurd (false≢true e)

-- each triple of the list is in the set
abbrev Held : (Triple → Bool) → List Triple → Type 0
Held has xs = (t : Triple) → among xs t ≡ true → has t ≡ true

held_pushed : (has : Triple → Bool) (xs ys : List Triple) (t : Triple) (ok : Bool)
    → ys ≡ cond ok (xs ++ t ∷ []) xs → (ok ≡ true → has t ≡ true) → Held has xs → Held has ys
held_pushed has xs ys t true e stored held =
    rw e (λ u h. ⊎_elim (held u) (λ is. ap has (sym (same_is t u is)) ∙ stored refl)
    (or_cases (among xs u) (same t u) (sym (among_push xs t u) ∙ h)))
held_pushed has xs ys t false e stored held = rw e held

held_removed : (has : Triple → Bool) (xs ys : List Triple) (t : Triple) (ok : Bool)
    → Removed xs t ok ys → Held has xs → Held has ys
held_removed has xs ys t true (stood, left, fewer) held u h = held u (and_parts _ _ (sym (left u) ∙ h)).0
held_removed has xs ys t false (away, is) held u h = held u (ap (λ zs. among zs u) (sym is) ∙ h)

held_after : (m : Meaning) (gone : List Triple) → After m gone → Held m.has gone
held_after m _ After.none = λ t h. absurd (false≢true h)
held_after m _ (After.withdrawing gone later t r before w) =
    held_pushed m.has gone later t (is_ok r) w.list
    (λ ok. ok_stored (among gone t) (m.has t) _ (sym (ap is_ok w.answer) ∙ ok))
    (held_after m gone before)
held_after m _ (After.restoring gone later t r before s) =
    held_removed m.has gone later t (is_ok r) s.list (held_after m gone before)

pub restored_is_there : RestoredIsThere
restored_is_there m gone later t r a s ok =
    let removed : Removed gone t true later = subst (λ b. Removed gone t b later) ok s.list in
    let there : m.has t ≡ true = held_after m gone a t removed.0 in
    s.meaning ∙ rw ok (ap (amended (without m gone) t) there)
