use Rattle.std.proofs.Common.{List, sym, subst, refl, rules}
use Rattle.triples.specs.declared.entry.DirectoryEntry.{DirectoryEntry}
use Rattle.triples.specs.Spans.{Spanned}
use Rattle.triples.specs.declared.position.Position.TheVariants.{Property}
use Rattle.triples.specs.Selectors.{select}
use Rattle.triples.specs.Meaning.{among}
use Rattle.triples.specs.Seeks.{Leapt}
use Rattle.triples.specs.Directory.{property_of, section, section_triples}
use Rattle.triples.proofs.Joins.{joins_leap, join_fold, leapt_known, pair_property}
use Rattle.triples.proofs.property_seek.PropertyStoreStore.leap.Goals as goal

pub returns-clause-answer : goal.returns-clause-answer
returns-clause-answer c =
    let dir = c.args.self.now.directory.items in
    let pairs = c.args.self.now.pairs.items in
    let span = subst
    (λ (entries : List DirectoryEntry). Spanned entries c.args.selector.property c.span_of.result)
    c.table.ensures.directory c.span_of.ensures in
    join_fold (joins_leap c.args.position c.args.selector c.args.bound) dir pairs _ _ c.span_of.result.start
    (λ i r. Leapt (among (section_triples dir pairs i)) c.args.position
    (select c.args.selector Property (property_of dir i)) c.args.bound r)
    c.span_of.result.end
    span.upward span.inside span.before span.behind
    (λ i a b f k. search rules)
    (λ i a b f k. search rules)
    (λ i low high found. leapt_known (among (section_triples dir pairs i))
    c.args.position c.args.selector c.args.bound (property_of dir i)
    (λ t h. sym (pair_property (property_of dir i) (section dir pairs i) t h)) found (span.within i low high))
    _ refl c.fold.result c.fold.ensures.ran
