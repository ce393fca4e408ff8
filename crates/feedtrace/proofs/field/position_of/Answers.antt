-- A word of these bytes is the name.
use Rattle.std.proofs.Common.{codes, sym, ap, arith, rules}
use Rattle.std.proofs.lemmas.Slice.Eq.{text_from_reads}
use Rattle.feedtrace.specs.Fields.{position_of}
use Rattle.feedtrace.proofs.field.position_of.Goals as goal

pub returns-in-subject : goal.returns-in-subject
returns-in-subject c =
    ap position_of (sym (text_from_reads c.args.word.now (codes "subject") (omega arith) (search rules)))

pub returns-in-property : goal.returns-in-property
returns-in-property c =
    ap position_of (sym (text_from_reads c.args.word.now (codes "property") (omega arith) (search rules)))

pub returns-in-object : goal.returns-in-object
returns-in-object c =
    ap position_of (sym (text_from_reads c.args.word.now (codes "object") (omega arith) (search rules)))
