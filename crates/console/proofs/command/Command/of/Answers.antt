-- The bytes that were read are the word.
use Rattle.std.proofs.Common.{◌≡◌, codes, arith, rules}
use Rattle.std.proofs.lemmas.Slice.Eq.{text_from_reads}
use Rattle.console.proofs.command.Command.of.Goals as goal

pub returns-in-query : goal.returns-in-query
returns-in-query c =
    let said : c.args.word.now ≡ codes "query" = text_from_reads _ _ (omega arith) (search rules) in
    rw said c.query.ensures

pub returns-in-write : goal.returns-in-write
returns-in-write c =
    let said : c.args.word.now ≡ codes "write" = text_from_reads _ _ (omega arith) (search rules) in
    rw said (search rules)
