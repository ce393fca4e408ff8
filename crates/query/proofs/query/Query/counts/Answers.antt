use Rattle.std.proofs.Common.{rules, refl, ◌≡◌, ◌≤◌, ◌^◌, ◌<◌, sum_by, vec_len, arith}
use Rattle.std.proofs.iter.runs.Sources.{sums}
use Rattle.std.proofs.lemmas.Iterator.{YieldsList-from_slice}
use Rattle.std.proofs.lemmas.Iterator.Adapters.{serves_from_places}
use Rattle.query.specs.Lawful.{triples_in, nodes_in}
use Rattle.query.specs.Limits.{most_in_all}
use Rattle.query.specs.Parts.{group_of}
use Rattle.query.proofs.Counts.{query_sums, sums_counted, one_within}
use Rattle.query.proofs.query.Query.counts.Goals as goal

pub sum-requires-clause-fits : goal.sum-requires-clause-fits
sum-requires-clause-fits c =
    let xs = c.as_slice-alternatives.result.now in
    let s = query_sums c.args.self.now xs c.as_slice-alternatives.ensures.value in
    let few : sum_by (λ a. vec_len a.blocks) xs < 2 ^ 64 = omega (arith, s.blocks) in
    search (rules, sums, few)

pub sum-requires-2-clause-can : goal.sum-requires-2-clause-can
sum-requires-2-clause-can c =
    let xs = c.as_slice-alternatives.result.now in
    let s = query_sums c.args.self.now xs c.as_slice-alternatives.ensures.value in (
      tt,
      serves_from_places (YieldsList-from_slice xs cc) (λ x q r. refl) (λ x k l is.
          let few : triples_in (group_of x.now) ≤ most_in_all =
          one_within _ most_in_all xs k x.now s.triples l is in
          search (rules, few)),
    )

pub sum-requires-2-clause-fits : goal.sum-requires-2-clause-fits
sum-requires-2-clause-fits c =
    let xs = c.as_slice-alternatives.result.now in
    let s = query_sums c.args.self.now xs c.as_slice-alternatives.ensures.value in
    let few : sum_by (λ a. triples_in (group_of a)) xs < 2 ^ 64 = omega (arith, s.triples) in
    search (rules, sums, few)

pub sum-requires-3-clause-can : goal.sum-requires-3-clause-can
sum-requires-3-clause-can c =
    let xs = c.as_slice-alternatives.result.now in
    let s = query_sums c.args.self.now xs c.as_slice-alternatives.ensures.value in (
      tt,
      serves_from_places (YieldsList-from_slice xs cc) (λ x q r. refl) (λ x k l is.
          let few : nodes_in (group_of x.now) ≤ most_in_all =
          one_within _ most_in_all xs k x.now s.nodes l is in
          search (rules, few)),
    )

pub sum-requires-3-clause-fits : goal.sum-requires-3-clause-fits
sum-requires-3-clause-fits c =
    let xs = c.as_slice-alternatives.result.now in
    let s = query_sums c.args.self.now xs c.as_slice-alternatives.ensures.value in
    let few : sum_by (λ a. nodes_in (group_of a)) xs < 2 ^ 64 = omega (arith, s.nodes) in
    search (rules, sums, few)

pub returns : goal.returns
returns c =
    let xs = c.as_slice-alternatives.result.now in
    let b : c.sum.result ≡ sum_by (λ a. vec_len a.blocks) xs = search (rules, sums) in
    let t : c.sum-2.result ≡ sum_by (λ a. triples_in (group_of a)) xs = search (rules, sums) in
    let n : c.sum-3.result ≡ sum_by (λ a. nodes_in (group_of a)) xs = search (rules, sums) in
    sums_counted c.args.self.now xs c.as_slice-alternatives.ensures.value _ _ _ b t n
