use Rattle.std.proofs.Common.{rules, ◌≡◌, ◌+◌, ◌<◌, ◌^◌, sum_by, vec_len, vec_items, ap, arith}
use Rattle.std.proofs.iter.runs.Sources.{sums}
use Rattle.query.specs.Lawful.{triples_in}
use Rattle.query.specs.Parts.{group_of}
use Rattle.query.proofs.Counts.{block_triples}
use Rattle.query.proofs.alternative.Alternative.triples.Goals as goal
use Rattle.query.proofs.alternative.Alternative.triples.Goals.{After-len}

pub sum-in_blocks-requires-clause-fits : goal.sum-in_blocks-requires-clause-fits
sum-in_blocks-requires-clause-fits c =
    let few : sum_by (λ b. vec_len b.triples) c.deref.result.now < 2 ^ 64 = omega (
      arith,
      ap (sum_by (λ b. vec_len b.triples)) c.deref.ensures.value,
      block_triples (vec_items c.args.self.now.blocks),
      c.requires,
    ) in
    search (rules, sums, few)

-- the two sums are all that the alternative has
all_counted : (c : After-len) → c.sum-in_blocks.result + c.len.result ≡ triples_in (group_of c.args.self.now)
all_counted c =
    let is : c.sum-in_blocks.result ≡ sum_by (λ b. vec_len b.triples) c.deref.result.now =
    search (rules, sums) in
    omega (
      arith,
      is,
      ap (sum_by (λ b. vec_len b.triples)) c.deref.ensures.value,
      block_triples (vec_items c.args.self.now.blocks),
      c.len.ensures,
      c.args.self.now.required.ok.0,
    )

pub overflow_add-result : goal.overflow_add-result
overflow_add-result c = omega (arith, all_counted c, c.requires)

pub returns : goal.returns
returns c = omega (arith, all_counted c)
