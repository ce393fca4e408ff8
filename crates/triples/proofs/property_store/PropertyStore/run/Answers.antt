use Rattle.std.proofs.Common.{◌≡◌, List, sym, subst₂, rules, arith}
use Rattle.triples.specs.declared.entry.DirectoryEntry.{DirectoryEntry}
use Rattle.triples.specs.declared.pair.Pair.{Pair}
use Rattle.triples.specs.Tables.{Ordered, triple_of}
use Rattle.triples.specs.Directory.{property_of, section}
use Rattle.triples.proofs.Sections.{section_ordered}
use Rattle.triples.proofs.property_store.PropertyStore.run.Goals as goal

pub invariant_of-result : goal.invariant_of-result
invariant_of-result c =
    let s = c.args.self.now in
    let i = c.args.i in
    let items : c.pairs_of.result.now ≡ section s.directory.items s.pairs.items i = search rules in
    let inside = c.requires in
    let long = s.directory.ok.0 in
    record {
      ordered = subst₂
          (λ (dir : List DirectoryEntry) (xs : List Pair). Ordered (triple_of (property_of dir i)) xs)
          (sym c.table-table.ensures.directory) (sym items)
          (section_ordered s.directory.items s.pairs.items s.ordered i (omega (arith, inside, long)));
    }
