use Rattle.std.proofs.Common.{rules, ◌≡◌, ◌+◌, ◌<◌, ◌^◌, sum_by, vec_len, vec_items, ap, arith}
use Rattle.std.proofs.iter.runs.Sources.{sums}
use Rattle.query.specs.Lawful.{nodes_in}
use Rattle.query.specs.Parts.{group_of}
use Rattle.query.proofs.Counts.{block_nodes}
use Rattle.query.proofs.alternative.Alternative.nodes.Goals as goal
use Rattle.query.proofs.alternative.Alternative.nodes.Goals.{After-len}

pub sum-in_blocks-requires-clause-fits : goal.sum-in_blocks-requires-clause-fits
sum-in_blocks-requires-clause-fits c =
    let few : sum_by (λ b. vec_len b.filter) c.deref.result.now < 2 ^ 64 = omega (
      arith,
      ap (sum_by (λ b. vec_len b.filter)) c.deref.ensures.value,
      block_nodes (vec_items c.args.self.now.blocks),
      c.requires,
    ) in
    search (rules, sums, few)

-- the two sums are all that the alternative has
all_counted : (c : After-len) → c.sum-in_blocks.result + c.len.result ≡ nodes_in (group_of c.args.self.now)
all_counted c =
    let is : c.sum-in_blocks.result ≡ sum_by (λ b. vec_len b.filter) c.deref.result.now =
    search (rules, sums) in
    omega (
      arith,
      is,
      ap (sum_by (λ b. vec_len b.filter)) c.deref.ensures.value,
      block_nodes (vec_items c.args.self.now.blocks),
      c.len.ensures,
      c.args.self.now.filter.ok.0,
    )

pub overflow_add-result : goal.overflow_add-result
overflow_add-result c = omega (arith, all_counted c, c.requires)

pub returns : goal.returns
returns c = omega (arith, all_counted c)
