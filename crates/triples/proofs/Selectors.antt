-- What a selector tells of a triple, and one seek of a leap. Assumes nothing.
use Rattle.std.proofs.Common.{◌≡◌, ℕ, ◌≤◌, true, false, not, Some, None, arith}
use Rattle.std.proofs.lemmas.Bool.Decides.{nat_tests}
use Rattle.triples.specs.declared.position.Position.{Position}
use Rattle.triples.specs.declared.position.Position.TheVariants.{Subject, Property, Object}
use Rattle.triples.specs.declared.selector.Selector.{Selector}
use Rattle.triples.specs.declared.triple.Triple.{Triple}
use Rattle.triples.specs.Order.{before, value_at}
use Rattle.triples.specs.Selectors.{matches, select, floor, passed, aim}

-- no triple before the floor matches
pub floor_reached : (s : Selector) (t : Triple) → matches s t ≡ true → before t (floor s) ≡ false
floor_reached s t h = grind (arith, nat_tests)

-- from a triple that is passed on, none matches
pub passed_none : (s : Selector) (t u : Triple) → passed s t ≡ true → before u t ≡ false → matches s u ≡ false
passed_none s t u h k = grind (arith, nat_tests)

-- behind a triple that is passed, each is
pub passed_upto : (s : Selector) (t u : Triple) → not (passed s u) ≡ true → before u t ≡ false
    → not (passed s t) ≡ true
passed_upto s t u h k = grind (arith, nat_tests)

-- aim

pub aim_reached : (s : Selector) (p : Position) (bound : ℕ) (start t : Triple)
    → aim s p bound ≡ Some start → matches s t ≡ true → bound ≤ value_at p t → before t start ≡ false
aim_reached s Subject bound start t a h k = grind (arith, nat_tests)
aim_reached s Property bound start t a h k = grind (arith, nat_tests)
aim_reached s Object bound start t a h k = grind (arith, nat_tests)

pub aim_low : (s : Selector) (p : Position) (bound : ℕ) (start t u : Triple) → aim s p bound ≡ Some start
    → matches s t ≡ true → before t start ≡ false → matches s u ≡ true → bound ≤ value_at p u
    → bound ≤ value_at p t
aim_low s Subject bound start t u a h k m n = grind (arith, nat_tests)
aim_low s Property bound start t u a h k m n = grind (arith, nat_tests)
aim_low s Object bound start t u a h k m n = grind (arith, nat_tests)

pub aim_least : (s : Selector) (p : Position) (bound : ℕ) (start t u : Triple) → aim s p bound ≡ Some start
    → matches s t ≡ true → matches s u ≡ true → before u t ≡ false → value_at p t ≤ value_at p u
aim_least s Subject bound start t u a h k m = grind (arith, nat_tests)
aim_least s Property bound start t u a h k m = grind (arith, nat_tests)
aim_least s Object bound start t u a h k m = grind (arith, nat_tests)

-- no aim: the entry at the position is any, and another one counts

pub select-matches : (s : Selector) (p : Position) (n : ℕ) (t : Triple) → matches s t ≡ true
    → value_at p t ≡ n
    → matches (select s p n) t ≡ true
select-matches s Subject n t h e = grind (arith, nat_tests)
select-matches s Property n t h e = grind (arith, nat_tests)
select-matches s Object n t h e = grind (arith, nat_tests)

pub select_value : (s : Selector) (p : Position) (n : ℕ) (t : Triple) → 1 ≤ n
    → matches (select s p n) t ≡ true
    → value_at p t ≡ n
select_value s Subject n t k h = grind (arith, nat_tests)
select_value s Property n t k h = grind (arith, nat_tests)
select_value s Object n t k h = grind (arith, nat_tests)

pub select_back : (s : Selector) (p : Position) (bound n : ℕ) (t : Triple) → aim s p bound ≡ None
    → matches (select s p n) t ≡ true → matches s t ≡ true
select_back s Subject bound n t a h = let z : ◌≡◌ {A = ℕ} 0 1 = cc in absurd (omega arith)
select_back s Property bound n t a h = grind (arith, nat_tests)
select_back s Object bound n t a h = grind (arith, nat_tests)

pub origin_reached : (t : Triple) → before t (record { subject = 0; property = 0; object = 0 }) ≡ false
origin_reached t = grind (arith, nat_tests)
