-- A word of these bytes is the name.
use Rattle.std.proofs.Common.{codes, sym, ap, arith, rules}
use Rattle.std.proofs.lemmas.Slice.Eq.{text_from_reads}
use Rattle.feedtrace.specs.Forms.{catalogue_of}
use Rattle.feedtrace.proofs.grammar.catalogue_of.Goals as goal

pub returns-in-inline : goal.returns-in-inline
returns-in-inline c =
    ap catalogue_of (sym (text_from_reads c.args.word.now (codes "inline") (omega arith) (search rules)))

pub returns-in-listed : goal.returns-in-listed
returns-in-listed c =
    ap catalogue_of (sym (text_from_reads c.args.word.now (codes "listed") (omega arith) (search rules)))
