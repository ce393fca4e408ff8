use Rattle.std.proofs.Common.{◌≡◌, true, false, rules, tests}
use Rattle.std.proofs.lemmas.Iterator.{first_from_Range}
use Rattle.triples.specs.Directory.{entry_good}
use Rattle.triples.proofs.Entries.{broken_found}
use Rattle.triples.proofs.table.first_broken.Goals as goal

pub returns : goal.returns
returns c =
    let dir = c.args.directory.now in
    broken_found c.args.top dir c.args.pairs c.find.result
    (first_from_Range _ _ _ c.find.result (λ i. entry_good c.args.top dir c.args.pairs i ≡ false)
    (λ i. entry_good c.args.top dir c.args.pairs i ≡ true) c.find.ensures.ran
    (λ x q k. search (rules, tests)) (λ x q k. search (rules, tests)))
