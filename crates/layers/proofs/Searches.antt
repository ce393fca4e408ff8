-- A search among the matches of a store for one that is not left out. Assumes nothing.
use Rattle.std.proofs.Common.{◌≡◌, Bool, true, false, not, List, [], ◌∷◌, Option, None, Some, IfSome, Bor}
use Rattle.std.proofs.Common.{sym, refl, ◌∙◌, subst, subst₂}
use Rattle.std.proofs.lemmas.Bool.{not-true, not-false}
use Rattle.std.specs.Fn.{Mut, CalledAt}
use Rattle.std.specs.Iterator.{Yields, FindsItem}
use Rattle.std.specs.List.{FoldsTo}
use Rattle.triples.specs.declared.matches.Matches.{Matches}
use Rattle.triples.specs.declared.selector.Selector.{Selector}
use Rattle.triples.specs.declared.triple.Triple.{Triple}
use Rattle.triples.specs.Matching.{Advances}
use Rattle.triples.specs.Meaning.{Meaning, among}
use Rattle.triples.specs.Seeks.{Sought}
use Rattle.layers.specs.Withdrawals.{without}
use Rattle.layers.proofs.Withdrawals.{Passed, passed_from, passed_found, passed_more, passed_all}

module _ {S K : Type 0} (meaning : S → Meaning) (kept : S → K) (first : Matches S) (m : Meaning) (k : K)
    (gone : List Triple) (selector : Selector) (start : Triple) where
  -- s goes over the store of first, which means m and keeps k, and what is sought before the start of s is
  -- among gone
  record Walked (s : Matches S) : Type 0 where
    pub reference : s.store.ghost_name ≡ first.store.ghost_name
    pub same : meaning s.store.now ≡ m
    pub keeps : kept s.store.now ≡ k
    pub wanted : s.selector ≡ selector
    pub passed : Passed m gone selector start s.start

  -- what the next call answers, of m and the selector
  sought : {s t : Matches S} {r : Option Triple} → Walked s → Advances meaning kept s r t
      → Sought m.has selector s.start r
  sought {s} {r = r} w a =
      subst₂ (λ (n : Meaning) q. Sought n.has q s.start r) w.same w.wanted a.answer

  walked_more : {s t : Matches S} {x : Triple} → among gone x ≡ true → Walked s
      → Advances meaning kept s (Some x) t → Walked t
  walked_more {s} {t} {x} away w a = record {
    reference = a.reference ∙ w.reference;
    same = a.same ∙ w.same;
    keeps = a.keeps ∙ w.keeps;
    wanted = a.selector ∙ w.wanted;
    passed = subst (Passed m gone selector start) (sym a.start)
        (passed_more m gone selector start s.start x w.passed (sought w a) away);
  }

  -- what a search answers, and the matches that it leaves
  pub record Found (r : Option Triple) (last : Matches S) : Type 0 where
    pub reference : last.store.ghost_name ≡ first.store.ghost_name
    pub same : meaning last.store.now ≡ m
    pub keeps : kept last.store.now ≡ k
    pub answer : Sought (without m gone).has selector start r

  -- f answers whether a triple is not among gone, and stays as it is
  module _ {F : Type 0} (calls : Mut F (Bor Triple × Unit {0}) Bool) (f : F)
      (says : (x : Triple) (b : Bool) (q : F)
      → CalledAt calls f x b q → (q ≡ f) × (b ≡ not (among gone x))) where
    walked_all : (xs : List Triple) {s t : Matches S} {p q : F} → p ≡ f → Walked s
        → Yields (Advances meaning kept) s xs t → FoldsTo (λ u x v. CalledAt calls u x false v) p xs q
        → Walked t × (q ≡ f)
    walked_all [] e w y o = (subst Walked y w, sym o ∙ e)
    walked_all (x ∷ xs) e w (_, step, more) (v, call, others) =
        let c = says x false v (subst (λ u. CalledAt calls u x false v) e call) in
        walked_all xs c.0 (walked_more (not-false (among gone x) (sym c.1)) w step) more others

    answered : (r : Option Triple) {s t : Matches S} {p : F} → p ≡ f → Walked s → Advances meaning kept s r t
        → IfSome r (λ x. (h : F) × CalledAt calls p x true h) → Sought (without m gone).has selector start r
    answered None {s} e w a hit = passed_all m gone selector start s.start w.passed (sought w a)
    answered (Some x) {s} e w a (h, call) =
        passed_found m gone selector start s.start w.passed x (sought w a)
        (not-true (among gone x) (sym (says x true h (subst (λ u. CalledAt calls u x true h) e call)).1))

    pub found : meaning first.store.now ≡ m → kept first.store.now ≡ k → first.selector ≡ selector
        → first.start ≡ start
        → {r : Option Triple} {last : Matches S} → FindsItem (Advances meaning kept) calls first f r last
        → Found r last
    found same keeps wanted from {r} (xs, p, (s, y, a), o, hit) =
        let begin : Walked first = record {
          reference = refl;
          same = same;
          keeps = keeps;
          wanted = wanted;
          passed = passed_from m gone selector start first.start from;
        } in
        let w = walked_all xs refl begin y o in
        record {
          reference = a.reference ∙ w.0.reference;
          same = a.same ∙ w.0.same;
          keeps = a.keeps ∙ w.0.keeps;
          answer = answered r w.1 w.0 a hit;
        }
