-- A word of these bytes is the name.
use Rattle.std.proofs.Common.{◌≡◌, ℕ, List, length, codes, sym, ap, arith, rules}
use Rattle.std.proofs.lemmas.Slice.Eq.{HasBytesAt, text_from_reads}
use Rattle.feedtrace.specs.Verbs.{verb_of}
use Rattle.feedtrace.proofs.verb.Verb.of.Goals as goal

verb_of-reads : (w name : List ℕ) → length w ≡ length name → HasBytesAt w 0 name → verb_of name ≡ verb_of w
verb_of-reads w name long reads = ap verb_of (sym (text_from_reads w name long reads))

pub returns-in-lookup : goal.returns-in-lookup
returns-in-lookup c = verb_of-reads c.args.word.now (codes "lookup") (omega arith) (search rules)

pub returns-in-inverse : goal.returns-in-inverse
returns-in-inverse c = verb_of-reads c.args.word.now (codes "inverse") (omega arith) (search rules)

pub returns-in-restore : goal.returns-in-restore
returns-in-restore c = verb_of-reads c.args.word.now (codes "restore") (omega arith) (search rules)

pub returns-in-withdraw : goal.returns-in-withdraw
returns-in-withdraw c = verb_of-reads c.args.word.now (codes "withdraw") (omega arith) (search rules)

pub returns-in-114 : goal.returns-in-114
returns-in-114 c = verb_of-reads c.args.word.now (codes "row-store") (omega arith) (search rules)

pub returns-in-catalogue : goal.returns-in-catalogue
returns-in-catalogue c = verb_of-reads c.args.word.now (codes "catalogue") (omega arith) (search rules)

pub returns-in-withdrawn : goal.returns-in-withdrawn
returns-in-withdrawn c = verb_of-reads c.args.word.now (codes "withdrawn") (omega arith) (search rules)

pub returns-in-112 : goal.returns-in-112
returns-in-112 c = verb_of-reads c.args.word.now (codes "property-store") (omega arith) (search rules)

pub returns-in-seek : goal.returns-in-seek
returns-in-seek c = verb_of-reads c.args.word.now (codes "seek") (omega arith) (search rules)

pub returns-in-leap : goal.returns-in-leap
returns-in-leap c = verb_of-reads c.args.word.now (codes "leap") (omega arith) (search rules)

pub returns-in-scan : goal.returns-in-scan
returns-in-scan c = verb_of-reads c.args.word.now (codes "scan") (omega arith) (search rules)

pub returns-in-trace : goal.returns-in-trace
returns-in-trace c = verb_of-reads c.args.word.now (codes "trace") (omega arith) (search rules)

pub returns-in-filter : goal.returns-in-filter
returns-in-filter c = verb_of-reads c.args.word.now (codes "filter") (omega arith) (search rules)
