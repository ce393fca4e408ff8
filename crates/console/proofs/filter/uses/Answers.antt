-- A slice has less than half as many nodes as a number can say, and each names at most two.
use Rattle.std.proofs.Common.{◌≤◌, arith, rules}
use Rattle.std.proofs.lemmas.Iterator.{YieldsList-from_slice}
use Rattle.std.proofs.lemmas.Iterator.Adapters.{at_most_from_yields_List, fits_from_length}
use Rattle.console.proofs.filter.uses.Goals as goal

pub sum-requires-clause-fits : goal.sum-requires-clause-fits
sum-requires-clause-fits c =
    fits_from_length _ _ 9223372036854775807 18446744073709551616
    (at_most_from_yields_List (YieldsList-from_slice c.args.nodes.now cc) (omega arith)) c.map.ensures.closure
    (omega arith) (λ x r q k. let two : r ≤ 2 = search rules in (search rules, two))
