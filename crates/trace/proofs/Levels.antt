-- A visit that goes from one triple of a term to the next gathers what is one step from it. Assumes nothing.
use Rattle.std.proofs.Common.{◌≡◌, ℕ, ◌+◌, ◌<◌, ◌≤◌, Bool, true, ◌⊎◌, List, [], ◌∷◌, ◌++◌, length, get_or}
use Rattle.std.proofs.Common.{take, sym, ap, ◌∙◌, subst, subst₂, inl, inr, ⊎_elim, arith}
use Rattle.std.proofs.ByRecursion.{has_append_left, has_push, has_push_cases}
use Rattle.std.proofs.lemmas.List.{take_all, take_more}
use Rattle.std.proofs.lemmas.Bool.{true≢false, cases_Bool}
use Rattle.std.proofs.lemmas.Bool.Decides.{nat_tests}
use Rattle.std.specs.List.Sorted.{IsNonDecreasing, IsPermutation}
use Rattle.triples.specs.declared.selector.Selector.{Selector}
use Rattle.triples.specs.declared.triple.Triple.{Triple}
use Rattle.triples.specs.Meaning.{Meaning, Sound}
use Rattle.triples.specs.Order.{before, same}
use Rattle.triples.specs.Selectors.{matches}
use Rattle.triples.specs.Seeks.{Candidate, Least}
use Rattle.triples.specs.Succession.{behind}
use Rattle.triples.proofs.Ranks.{before_behind, before_behind_upto, same_from_behind}
use Rattle.triples.proofs.Selectors.{origin_reached}
use Rattle.triples.proofs.Seeks.{origin}
use Rattle.trace.specs.Levels.{From, Visited, Level}
use Rattle.trace.specs.Marks.{Gathered}
use Rattle.trace.specs.Steps.{Step}
use Rattle.trace.proofs.Marks.{Noted, gathered_like, gathered_more, gathered_shuffled}

-- subjects

-- the triple of the three numbers
abbrev pub triple : ℕ → ℕ → ℕ → Triple
triple s p o = record { subject = s; property = p; object = o }

-- the selector of all triples with the term as their subject
abbrev pub of_subject : ℕ → Selector
of_subject term = record { subject = term; property = 0; object = 0 }

triple_of_subject : (term : ℕ) (t : Triple) → 1 ≤ term → matches (of_subject term) t ≡ true
    → t ≡ triple term t.property t.object
triple_of_subject term t h k = grind (arith, nat_tests)

matches-of_subject : (term p o : ℕ) → matches (of_subject term) (triple term p o) ≡ true
matches-of_subject term p o = grind (arith, nat_tests)

object_same : (t u : Triple) → same t u ≡ true → u.object ≡ t.object
object_same t u h = grind (arith, nat_tests)

-- an object of a store has a place among the marks
pub object_below : (m : Meaning) → Sound m → {s : Selector} {start t : Triple} → Candidate m.has s start t
    → {n k : ℕ} → n ≡ k → m.top < k → t.object < n
object_below m sound {t = t} c long top = let small = (sound.terms t c.held).object.small in omega arith

module _ (has : Triple → Bool) (term : ℕ) where
  -- y is the object of a triple of the term before start
  pub record Passed (start : Triple) (y : ℕ) : Type 0 where
    pub property : ℕ
    pub held : has (triple term property y) ≡ true
    pub below : before (triple term property y) start ≡ true

  -- where marks and found are gathered from the terms xs, after and more are gathered from xs and from the
  -- triples of the term before start
  abbrev pub VisitedTo : Triple → List Bool → List ℕ → List Bool → List ℕ → Type 0
  VisitedTo start marks found after more =
      (old : List Bool) (xs : List ℕ)
      → Gathered (From has xs) old marks found → Gathered (λ y. From has xs y ⊎ Passed start y) old after more

  pub visited_none : (marks : List Bool) (found : List ℕ) → VisitedTo origin marks found marks found
  visited_none marks found old xs g =
      gathered_like g (λ y. inl)
      (λ y. ⊎_elim (λ f. f)
      (λ p. absurd (true≢false (sym p.below ∙ origin_reached (triple term p.property y)))))

  module _ (one : 1 ≤ term) {start t : Triple} (l : Least has (of_subject term) start t) where
    passed_found : Passed (behind t) t.object
    passed_found =
        let is = triple_of_subject term t one l.candidate.fit in
        record {
          property = t.property;
          held = ap has (sym is) ∙ l.candidate.held;
          below = ap (λ u. before u (behind t)) (sym is) ∙ before_behind t;
        }

    passed_more : (y : ℕ) → Passed start y → Passed (behind t) y
    passed_more y p = record {
      property = p.property;
      held = p.held;
      below = before_behind_upto (triple term p.property y) start t p.below l.candidate.reached;
    }

    passed_more_back : (y : ℕ) → Passed (behind t) y → Passed start y ⊎ (y ≡ t.object)
    passed_more_back y p =
        let u = triple term p.property y in
        let fit = matches-of_subject term p.property y in
        ⊎_elim (λ h. inl (record { property = p.property; held = p.held; below = h }))
        (λ h. inr (object_same t u (same_from_behind t u
        (l.first u (record { held = p.held; fit = fit; reached = h })) p.below)))
        (cases_Bool (before u start))

    visited_push : {marks after later : List Bool} {found more most : List ℕ}
        → t.object < length after → Noted t.object after more later most
        → VisitedTo start marks found after more → VisitedTo (behind t) marks found later most
    visited_push h n v old xs g =
        gathered_like (gathered_more (v old xs g) h n)
        (λ y. ⊎_elim (⊎_elim inl (λ p. inr (passed_more y p)))
        (λ e. inr (subst (Passed (behind t)) (sym e) passed_found)))
        (λ y. ⊎_elim (λ f. inl (inl f)) (λ p. ⊎_elim (λ k. inl (inr k)) inr (passed_more_back y p)))

    pub visited_more : {next : Triple} {marks after later : List Bool} {found more most : List ℕ}
        → next ≡ behind t → t.object < length after → Noted t.object after more later most
        → VisitedTo start marks found after more → VisitedTo next marks found later most
    visited_more {marks = marks} {later = later} {found = found} {most = most} e h n v =
        subst (λ (u : Triple). VisitedTo u marks found later most) (sym e) (visited_push h n v)

  from_push : (xs : List ℕ) (y : ℕ) → From has xs y → From has (xs ++ term ∷ []) y
  from_push xs y f = record {
    from = f.from;
    listed = has_append_left xs (term ∷ []) f.from f.listed;
    step = f.step;
  }

  from_push_back : (xs : List ℕ) (y : ℕ) → From has (xs ++ term ∷ []) y → From has xs y ⊎ Step has term y
  from_push_back xs y f =
      ⊎_elim (λ h. inl (record { from = f.from; listed = h; step = f.step }))
      (λ e. inr (subst (λ a. Step has a y) (sym e) f.step))
      (has_push_cases xs term f.from f.listed)

  module _ {start : Triple} (end : (t : Triple) → Candidate has (of_subject term) start t → ⊥) where
    passed_all : (y : ℕ) → Step has term y → Passed start y
    passed_all y s =
        let u = triple term s.property y in
        let fit = matches-of_subject term s.property y in
        ⊎_elim (λ h. record { property = s.property; held = s.held; below = h })
        (λ h. absurd (end u (record { held = s.held; fit = fit; reached = h })))
        (cases_Bool (before u start))

    pub visited_all : {marks after : List Bool} {found more : List ℕ}
        → VisitedTo start marks found after more → Visited has term marks found after more
    visited_all v old xs g =
        gathered_like (v old xs g)
        (λ y. ⊎_elim (from_push xs y)
        (λ p. record {
          from = term;
          listed = has_push xs term;
          step = record { property = p.property; held = p.held };
        }))
        (λ y f. ⊎_elim inl (λ s. inr (passed_all y s)) (from_push_back xs y f))

-- 0 is no term, so no step leads from it
pub visited_zero : (m : Meaning) → Sound m → {term : ℕ} → term ≡ 0 → (marks : List Bool) (found : List ℕ)
    → Visited m.has term marks found marks found
visited_zero m sound {term} zero marks found old xs g =
    gathered_like g (from_push m.has term xs)
    (λ y f. ⊎_elim (λ h. h)
    (λ s. let positive = (sound.terms (triple term s.property y) s.held).subject.positive in
    absurd (omega (arith, zero, positive)))
    (from_push_back m.has term xs y f))

-- levels

module _ {has : Triple → Bool} (front : List ℕ) {old new : List Bool} {found : List ℕ} where
  pub gathered_next : (i : ℕ) → i < length front → {after : List Bool} {more : List ℕ}
      → Visited has (get_or front i 0) new found after more
      → Gathered (From has (take i front)) old new found
      → Gathered (From has (take (i + 1) front)) old after more
  gathered_next i h {after} {more} v g =
      subst (λ (xs : List ℕ). Gathered (From has xs) old after more) (sym (take_more front i 0 h))
      (v old (take i front) g)

  pub level_all : {i : ℕ} → length front ≤ i → {xs : List ℕ} → IsPermutation found xs → IsNonDecreasing xs
      → Gathered (From has (take i front)) old new found → Level has front old new xs
  level_all {i} h s up g = record {
    gathered = gathered_shuffled
        (subst (λ (ys : List ℕ). Gathered (From has ys) old new found) (take_all i front h) g) s;
    rising = up;
  }

pub visited_like : {m n : Meaning} → m ≡ n → {term : ℕ} {marks after : List Bool} {found more : List ℕ}
    → Visited m.has term marks found after more → Visited n.has term marks found after more
visited_like same {term} {marks} {after} {found} {more} =
    subst (λ (k : Meaning). Visited k.has term marks found after more) same

pub level_like : {m n : Meaning} {xs ys found : List ℕ} {old first new : List Bool} → m ≡ n → xs ≡ ys
    → old ≡ first → Level m.has xs old new found → Level n.has ys first new found
level_like {m} {ys = ys} {found = found} {first = first} {new = new} e f h l =
    subst (λ (k : Meaning). Level k.has ys first new found) e
    (subst₂ (λ zs marks. Level m.has zs marks new found) f h l)
