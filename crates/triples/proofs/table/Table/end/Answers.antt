use Rattle.std.proofs.Common.{◌+◌, ◌≤◌, length, sym, subst}
use Rattle.triples.specs.Directory.{no_entry, first_of}
use Rattle.triples.proofs.Entries.{first_inside, first_next}
use Rattle.triples.proofs.table.Table.end.Goals as goal

pub returns-in-Some-clause-within : goal.returns-in-Some-clause-within
returns-in-Some-clause-within c =
    let table = c.args.self.now in
    let dir = table.directory.now in
    let pairs = length table.pairs.now in
    let lookup = c.in-Some.ensures.lookup in
    subst (λ e. (first_of dir c.args.i ≤ e.first) × (e.first ≤ pairs)) (sym (lookup.3.1 no_entry)) (
      first_next table.top dir pairs table.good c.args.i lookup.3.0,
      first_inside table.top dir pairs table.good (c.args.i + 1) lookup.3.0,
    )
