use Rattle.std.proofs.Common.{List, sym, subst, refl, rules}
use Rattle.triples.specs.declared.entry.DirectoryEntry.{DirectoryEntry}
use Rattle.triples.specs.Spans.{Spanned}
use Rattle.triples.specs.declared.position.Position.TheVariants.{Property}
use Rattle.triples.specs.Selectors.{select}
use Rattle.triples.specs.Meaning.{among}
use Rattle.triples.specs.Seeks.{Sought}
use Rattle.triples.specs.Directory.{property_of, section, section_triples}
use Rattle.triples.proofs.Joins.{joins_seek, join_fold, sought_known, pair_property}
use Rattle.triples.proofs.property_seek.PropertyStoreStore.seek.Goals as goal

pub returns-clause-answer : goal.returns-clause-answer
returns-clause-answer c =
    let dir = c.args.self.now.directory.items in
    let pairs = c.args.self.now.pairs.items in
    let span = subst
    (λ (entries : List DirectoryEntry). Spanned entries c.args.selector.property c.span_of.result)
    c.table.ensures.directory c.span_of.ensures in
    join_fold (joins_seek c.args.selector c.args.start) dir pairs _ _ c.span_of.result.start
    (λ i r. Sought (among (section_triples dir pairs i))
    (select c.args.selector Property (property_of dir i)) c.args.start r)
    c.span_of.result.end
    span.upward span.inside span.before span.behind
    (λ i a b f k. search rules)
    (λ i a b f k. search rules)
    (λ i low high found. sought_known (among (section_triples dir pairs i))
    c.args.selector c.args.start (property_of dir i)
    (λ t h. sym (pair_property (property_of dir i) (section dir pairs i) t h)) found (span.within i low high))
    _ refl c.fold.result c.fold.ensures.ran
