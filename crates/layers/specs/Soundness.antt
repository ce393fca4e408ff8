-- A layer over a sound store is sound: each kind of store gives this with its meaning, so it stands among
-- what the contracts cite. Assumes nothing.
use Rattle.std.specs.Prelude.{ℕ, ◌≤◌, not, List, ◌==◌, nat_le}
use Rattle.std.proofs.Common.{⊎_elim, sym, subst}
use Rattle.std.proofs.lemmas.Bool.{and_parts, or_cases, leb-true, eqb-true}
use Rattle.triples.specs.declared.triple.Triple.{Triple}
use Rattle.triples.specs.Meaning.{Meaning, Term, Sound, first_term, among}
use Rattle.layers.specs.Inverses.{flip, inverse_of, turned, with_turned}
use Rattle.layers.specs.Withdrawals.{without}

-- what is left of a sound m is sound
pub sound_without : (m : Meaning) (gone : List Triple) → Sound m → Sound (without m gone)
sound_without m gone b = record {
  small = b.small;
  terms = λ t h. b.terms t (and_parts (m.has t) (not (among gone t)) h).0;
}

-- the turned triples of a sound m, taken alone, are sound
pub sound_turned : (p q : ℕ) (m : Meaning) → first_term ≤ q → Sound m
    → Sound (record { top = m.top; has = turned p q m })
sound_turned p q m one b = record {
  small = b.small;
  terms = λ t h.
      let parts = and_parts (nat_le q m.top) (inverse_of p q m t) h in
      let found = and_parts (t.property == q) (m.has (flip p t)) parts.1 in
      let from = b.terms (flip p t) found.1 in
      record {
        subject = from.object;
        property = subst (Term m.top) (sym (eqb-true t.property q found.0))
            (record { positive = one; small = leb-true q m.top parts.0 });
        object = from.subject;
      };
}

-- a sound m with its turned triples is sound
pub sound_with_turned : (p q : ℕ) (m : Meaning) → first_term ≤ q → Sound m → Sound (with_turned p q m)
sound_with_turned p q m one b = record {
  small = b.small;
  terms = λ t h. ⊎_elim (b.terms t) ((sound_turned p q m one b).terms t)
      (or_cases (m.has t) (turned p q m t) h);
}
