-- The text of each command of tables, layers and questions, with what follows its word. Assumes nothing.
use Rattle.std.specs.Prelude.{ℕ, List, codes}
use Rattle.feedtrace.specs.declared.verb.Verb.{Verb}
use Rattle.feedtrace.specs.declared.verb.Verb.TheVariants as verb

-- the command in its form
abbrev pub form_text : Verb → List ℕ
form_text verb.RowStore = codes "row-store T"
form_text verb.PropertyStore = codes "property-store T"
form_text verb.Catalogue = codes "catalogue inline, or catalogue listed"
form_text verb.Inverse = codes "inverse P Q"
form_text verb.Withdrawn = codes "withdrawn alone"
form_text verb.Withdraw = codes "withdraw S P O"
form_text verb.Restore = codes "restore S P O"
form_text verb.Seek = codes "seek A B C from S P O"
form_text verb.Leap = codes "leap subject, property or object, then A B C from N, with 0 at that place"
form_text verb.Lookup = codes "lookup N"
form_text verb.Scan = codes "scan A B C"
form_text verb.Trace = codes "trace N"
form_text verb.Filter = codes "filter A V0 .. V15, or filter A B V0 .. V15"
