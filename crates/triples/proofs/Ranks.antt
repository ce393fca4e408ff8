-- Where the triple right behind another stands, and how a rank rises there. Assumes nothing.
use Rattle.std.proofs.Common.{◌≡◌, ◌^◌, ◌<◌, true, false, ap, ◌∙◌, arith}
use Rattle.std.proofs.lemmas.Bool.Decides.{nat_tests}
use Rattle.triples.specs.declared.selector.Selector.{Selector}
use Rattle.triples.specs.declared.triple.Triple.{Triple}
use Rattle.triples.specs.Meaning.{Meaning, Sound}
use Rattle.triples.specs.Order.{before, same}
use Rattle.triples.specs.Seeks.{Candidate}
use Rattle.triples.specs.Matching.{rank, ahead}
use Rattle.triples.specs.Succession.{behind, step}

-- order

pub before_behind : (t : Triple) → before t (behind t) ≡ true
before_behind t = grind (arith, nat_tests)

pub before_behind_upto : (t u v : Triple) → before t u ≡ true → before v u ≡ false
    → before t (behind v) ≡ true
before_behind_upto t u v h k = grind (arith, nat_tests)

pub behind_reached : (t start : Triple) → before t start ≡ false → before (behind t) start ≡ false
behind_reached t start h = grind (arith, nat_tests)

pub upto_behind : (t u : Triple) → before u t ≡ false → same t u ≡ false → before u (behind t) ≡ false
upto_behind t u h k = grind (arith, nat_tests)

-- what is not below t, but before the triple right behind it, is t
pub same_from_behind : (t u : Triple) → before u t ≡ false → before u (behind t) ≡ true → same t u ≡ true
same_from_behind t u h k = grind (arith, nat_tests)

-- rank

rank_small : (t : Triple) → rank t < 2 ^ 100
rank_small t = omega arith

-- t is a triple of a store, found from start on
module _ (m : Meaning) (sound : Sound m) {selector : Selector} {start t : Triple}
    (found : Candidate m.has selector start t) where
  step_behind : step t ≡ behind t
  step_behind =
      let small = (sound.terms t found.held).object.small in
      let top = sound.small in grind (arith, nat_tests)

  rank_behind : rank start < rank (behind t)
  rank_behind =
      let u = sound.terms t found.held in
      let top = sound.small in
      let s = u.subject.small in
      let p = u.property.small in
      let o = u.object.small in
      let reached = found.reached in grind (arith, nat_tests)

  -- next is the triple right behind it
  module _ {next : Triple} (is : next ≡ step t) where
    pub next_behind : next ≡ behind t
    next_behind = is ∙ step_behind

    pub ahead_less : ahead next < ahead start
    ahead_less = omega (arith, ap rank next_behind, rank_behind, rank_small (behind t))
