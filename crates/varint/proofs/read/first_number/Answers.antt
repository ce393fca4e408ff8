-- The place of the first byte below 128 tells where the number ends.
use Rattle.std.proofs.Common.{◌<◌, ◌≤◌, rules, tests}
use Rattle.std.proofs.lemmas.Iterator.{IsFirst-from_position, YieldsList-from_slice}
use Rattle.std.proofs.lemmas.Option.{MatchOption-at_none, MatchOption-at_some}
use Rattle.varint.proofs.Reading.{ends_none, first_found}
use Rattle.varint.proofs.read.first_number.Goals as goal

pub returns-in_err-last : goal.returns-in_err-last
returns-in_err-last c =
    let found = IsFirst-from_position _ _ c.position.result (λ b. b < 128) (λ b. 128 ≤ b)
    c.position.ensures.ran (YieldsList-from_slice c.args.bytes.now cc)
    (λ x q k. search (rules, tests)) (λ x q k. search (rules, tests))
    in rw c.from_residual.ensures
    (ends_none c.args.bytes.now (MatchOption-at_none _ _ c.in_err-last.was found))

pub returns : goal.returns
returns c =
    let found = IsFirst-from_position _ _ c.position.result (λ b. b < 128) (λ b. 128 ≤ b)
    c.position.ensures.ran (YieldsList-from_slice c.args.bytes.now cc)
    (λ x q k. search (rules, tests)) (λ x q k. search (rules, tests))
    in let at = MatchOption-at_some _ _ _ c.in_ok-last.was found
    in first_found c.args.bytes.now c.in_ok-last.last at.0 at.1 at.2
