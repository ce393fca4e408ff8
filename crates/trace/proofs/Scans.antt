-- A scan that goes from one match to the next loses none. Assumes nothing.
use Rattle.std.proofs.Common.{◌≡◌, ◌+◌, ◌<◌, Bool, true, false, List, [], ◌∷◌, ◌++◌, length, sym, ◌∙◌}
use Rattle.std.proofs.Common.{subst₂, ⊎_elim, arith}
use Rattle.std.proofs.ByRecursion.{All-get_or, All-push, All-weaker}
use Rattle.std.proofs.lemmas.List.{length_push, get_or_append_left, get_or_push}
use Rattle.std.proofs.lemmas.Bool.{cases_Bool, cases_lt, or_left, or_right}
use Rattle.std.specs.List.{AllByRecursion}
use Rattle.triples.specs.declared.selector.Selector.{Selector}
use Rattle.triples.specs.declared.triple.Triple.{Triple}
use Rattle.triples.specs.Laws.{among-append}
use Rattle.triples.specs.Meaning.{among}
use Rattle.triples.specs.Order.{before, same}
use Rattle.triples.specs.Seeks.{Least}
use Rattle.triples.specs.Succession.{behind}
use Rattle.triples.proofs.Ranks.{before_behind, before_behind_upto, same_from_behind}
use Rattle.triples.proofs.Order.{before_upto}
use Rattle.trace.specs.Scans.{Match, Ascending}

-- among

among_left : (xs ys : List Triple) (t : Triple) → among xs t ≡ true → among (xs ++ ys) t ≡ true
among_left xs ys t h = among-append xs ys t ∙ or_left (among xs t) (among ys t) h

among_push : (xs : List Triple) (x t : Triple) → same x t ≡ true → among (xs ++ x ∷ []) t ≡ true
among_push xs x t h =
    among-append xs (x ∷ []) t
    ∙ or_right (among xs t) (among (x ∷ []) t) (or_left (same x t) false h)

-- ascending lists

ascending_push : (xs : List Triple) (t : Triple) → Ascending xs → AllByRecursion (λ x. before x t ≡ true) xs
    → Ascending (xs ++ t ∷ [])
ascending_push xs t up below k d h =
    let long = length_push xs t in
    ⊎_elim
    (λ i. rw (get_or_append_left xs (t ∷ []) d k (omega arith), get_or_append_left xs (t ∷ []) d (k + 1) i)
    (up k d i))
    (λ i. let here : k < length xs = omega arith in
    let last : length xs ≡ k + 1 = omega arith in
    rw (get_or_append_left xs (t ∷ []) d k here, get_or_push xs t d (k + 1) last)
    (All-get_or (λ x. before x t ≡ true) xs k d here below))
    (cases_lt (k + 1) (length xs))

-- the scan up to start

module _ (has : Triple → Bool) (selector : Selector) where
  -- xs is what the scan gives of the triples before start
  pub record ScannedTo (start : Triple) (xs : List Triple) : Type 0 where
    pub ascending : Ascending xs
    pub each : AllByRecursion (Match has selector) xs
    pub below : AllByRecursion (λ t. before t start ≡ true) xs
    pub all : (t : Triple) → Match has selector t → before t start ≡ true → among xs t ≡ true

  scanned_push : (start t : Triple) (xs : List Triple) → Least has selector start t → ScannedTo start xs
      → ScannedTo (behind t) (xs ++ t ∷ [])
  scanned_push start t xs l s = record {
    ascending = ascending_push xs t s.ascending
        (All-weaker _ _ (λ x h. before_upto x start t h l.candidate.reached) xs s.below);
    each = All-push _ xs t s.each (record { held = l.candidate.held; fit = l.candidate.fit });
    below = All-push _ xs t
        (All-weaker _ _ (λ x h. before_behind_upto x start t h l.candidate.reached) xs s.below)
        (before_behind t);
    all = λ u m h. ⊎_elim (λ k. among_left xs (t ∷ []) u (s.all u m k))
        (λ k. among_push xs t u (same_from_behind t u
        (l.first u (record { held = m.held; fit = m.fit; reached = k })) h))
        (cases_Bool (before u start));
  }

  pub scanned_more : {start t next : Triple} {xs ys : List Triple} → Least has selector start t
      → next ≡ behind t → ys ≡ xs ++ t ∷ [] → ScannedTo start xs → ScannedTo next ys
  scanned_more {start} {t} {xs = xs} l e f s =
      subst₂ ScannedTo (sym e) (sym f) (scanned_push start t xs l s)
