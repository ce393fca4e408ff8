use Rattle.std.proofs.Common.{rules}
use Rattle.std.proofs.lemmas.List.Sorted.{answers_always}
use Rattle.triples.proofs.Entries.{spanned_found, spanned_missing}
use Rattle.triples.proofs.table.Table.span_of.Goals as goal

pub returns-in-Ok : goal.returns-in-Ok
returns-in-Ok c =
    let table = c.args.self.now in
    spanned_found table.top table.directory.now _ table.good c.args.wanted c.in-Ok.i
    c.if-wanted-eq-ANY.false c.in-Ok.ensures.bound
    (c.in-Ok.ensures.position (λ e. e.property) (answers_always _ _ _ (λ f a r k called. search rules)))

pub returns-in-Err : goal.returns-in-Err
returns-in-Err c =
    let table = c.args.self.now in
    spanned_missing table.top table.directory.now _ table.good c.args.wanted c.in-Err.i
    c.if-wanted-eq-ANY.false c.in-Err.ensures.bound
    (c.in-Err.ensures.position (λ e. e.property) (answers_always _ _ _ (λ f a r k called. search rules)))
