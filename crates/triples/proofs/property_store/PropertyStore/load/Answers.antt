use Rattle.std.proofs.Common.{List, Some, None, Result, MatchResult, sym, subst, subst₂, arith}
use Rattle.refusal.specs.declared.rejection.Rejection.{Rejection}
use Rattle.triples.specs.declared.entry.DirectoryEntry.{DirectoryEntry}
use Rattle.triples.specs.declared.pair.Pair.{Pair}
use Rattle.triples.specs.declared.property_store.PropertyTable.{PropertyTable}
use Rattle.triples.specs.Sections.{TableLawful, TableOutcome}
use Rattle.triples.proofs.Sections.{table_accepted}
use Rattle.triples.proofs.property_store.PropertyStore.load.Goals as goal

pub invariant_of-result : goal.invariant_of-result
invariant_of-result c =
    let given = c.in_ok-table.ensures in
    let dir = c.deref.result.now in
    let pairs = c.deref-2.result.now in
    let outcome = subst
    (λ (r : Result (Unit {0}) Rejection). MatchResult r (λ _. TableOutcome c.args.top dir pairs None)
    (λ e. TableOutcome c.args.top dir pairs (Some e))) given.0 c.check.ensures in
    let lawful = subst (λ (t : PropertyTable). TableLawful c.args.top t.directory.items t.pairs.items)
    (sym given.1)
    (subst₂ (λ (ds : List DirectoryEntry) (ps : List Pair). TableLawful c.args.top ds ps)
    c.deref.ensures.value c.deref-2.ensures.value (table_accepted c.args.top dir pairs outcome)) in
    let entries = lawful.limited.few_entries in
    let few_pairs = lawful.limited.few_pairs in
    let entries_len = c.in_ok-table.table.directory.ok.0 in
    let pairs_len = c.in_ok-table.table.pairs.ok.0 in record {
      small = lawful.limited.small;
      few = (omega (arith, entries, entries_len), omega (arith, few_pairs, pairs_len));
      good = lawful.whole.good;
      terms = lawful.terms;
      ordered = lawful.ordered;
    }
