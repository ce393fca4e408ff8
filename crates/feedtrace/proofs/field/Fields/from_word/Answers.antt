-- The word of these bytes is from.
use Rattle.std.proofs.Common.{codes, refl, sym, ◌∙◌, arith, rules}
use Rattle.std.proofs.lemmas.Slice.Eq.{text_from_reads}
use Rattle.feedtrace.proofs.field.Fields.from_word.Goals as goal

pub returns-in-from : goal.returns-in-from
returns-in-from c =
    let said = text_from_reads c.word.result.now (codes "from") (omega arith) (search rules) in
    rw (sym c.word.ensures.first ∙ said, ← c.word.ensures.rest) refl
