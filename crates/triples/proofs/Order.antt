-- Laws of the order of triples. Assumes nothing.
use Rattle.std.proofs.Common.{◌≡◌, true, false, arith}
use Rattle.std.proofs.lemmas.Bool.Decides.{nat_tests}
use Rattle.triples.specs.declared.triple.Triple.{Triple}
use Rattle.triples.specs.Order.{before, same}

pub before_itself : (t : Triple) → before t t ≡ false
before_itself t = grind (arith, nat_tests)

pub before_trans : (t u v : Triple) → before t u ≡ true → before u v ≡ true → before t v ≡ true
before_trans t u v h k = grind (arith, nat_tests)

-- t is not above u, u not above v
pub upto_trans : (t u v : Triple) → before u t ≡ false → before v u ≡ false → before v t ≡ false
upto_trans t u v h k = grind (arith, nat_tests)

pub before_upto : (t u v : Triple) → before t u ≡ true → before v u ≡ false → before t v ≡ true
before_upto t u v h k = grind (arith, nat_tests)

pub upto_before : (t u : Triple) → before t u ≡ true → before u t ≡ false
upto_before t u h = grind (arith, nat_tests)

pub same_itself : (t : Triple) → same t t ≡ true
same_itself t = grind (arith, nat_tests)

-- triples with the same numbers are one triple
pub same_is : (t u : Triple) → same t u ≡ true → t ≡ u
same_is t u h = grind (arith, nat_tests)
