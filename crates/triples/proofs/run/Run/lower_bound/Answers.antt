use Rattle.std.proofs.Common.{rules}
use Rattle.std.proofs.lemmas.List.Sorted.{IsPartitionPoint-from_clause}
use Rattle.triples.specs.Order.{before}
use Rattle.triples.proofs.Finding.{partitioned, split_point}
use Rattle.triples.proofs.run.Run.lower_bound.Goals as goal

pub returns : goal.returns
returns g c =
    let run = c.args.self.now in
    let triple = g.T.Element.placed run.property in
    let start = c.args.start in
    split_point triple run.items.now start c.partition_point.result c.partition_point.ensures.bound
    (IsPartitionPoint-from_clause (λ x. before (triple x) start) run.items.now c.partition_point.result
    c.partition_point.ensures.partitioned (partitioned triple run.items.now run.ordered start)
    (λ a r f k. search rules))
