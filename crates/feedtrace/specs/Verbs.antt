-- What the first word of a line says of tables, layers and questions. Assumes nothing.
use Rattle.std.specs.Prelude.{ℕ, cond, List, Some, None, codes, Option}
use Rattle.std.specs.Str.{bytes_eq}
use Rattle.feedtrace.specs.declared.verb.Verb.{Verb}
use Rattle.feedtrace.specs.declared.verb.Verb.TheVariants.{RowStore, PropertyStore, Catalogue, Inverse}
use Rattle.feedtrace.specs.declared.verb.Verb.TheVariants.{Withdrawn}
use Rattle.feedtrace.specs.declared.verb.Verb.TheVariants.{Withdraw, Restore, Seek, Leap, Lookup, Scan}
use Rattle.feedtrace.specs.declared.verb.Verb.TheVariants.{Trace, Filter}

-- what the word w asks of the store, the catalogue or the query
abbrev pub question_verb : List ℕ → Option Verb
question_verb w =
    cond (bytes_eq w (codes "seek")) (Some Seek)
    (cond (bytes_eq w (codes "leap")) (Some Leap)
    (cond (bytes_eq w (codes "lookup")) (Some Lookup)
    (cond (bytes_eq w (codes "scan")) (Some Scan)
    (cond (bytes_eq w (codes "trace")) (Some Trace)
    (cond (bytes_eq w (codes "filter")) (Some Filter) None)))))

-- what the word w says of tables, layers and questions
abbrev pub verb_of : List ℕ → Option Verb
verb_of w =
    cond (bytes_eq w (codes "row-store")) (Some RowStore)
    (cond (bytes_eq w (codes "property-store")) (Some PropertyStore)
    (cond (bytes_eq w (codes "catalogue")) (Some Catalogue)
    (cond (bytes_eq w (codes "inverse")) (Some Inverse)
    (cond (bytes_eq w (codes "withdrawn")) (Some Withdrawn)
    (cond (bytes_eq w (codes "withdraw")) (Some Withdraw)
    (cond (bytes_eq w (codes "restore")) (Some Restore) (question_verb w)))))))
