-- What a table with the layers over it means. Assumes nothing.
use Rattle.triples.specs.Meaning.{Meaning}
use Rattle.layers.specs.Inverses.{with_turned}
use Rattle.layers.specs.Members.{members}
use Rattle.layers.specs.Withdrawals.{without}
use Rattle.layers.specs.declared.inverse.Inverse as inverses
use Rattle.layers.specs.declared.withdrawn.Withdrawn as layers
use Rattle.feedtrace.specs.declared.either.Either.{Either}
use Rattle.feedtrace.specs.declared.either.Either.TheVariants.{Left}
use Rattle.feedtrace.specs.Eithers.{either_of}
use Rattle.feedtrace.specs.Tables.{Table, table_meaning}

-- a table, or an inverse layer over one
abbrev pub Inverted : Type 0
Inverted = Either Table (inverses.Inverse Table)

-- such a one, or a withdrawn layer over it
abbrev pub Layered : Type 0
Layered = Either Inverted (layers.Withdrawn Inverted)

-- the table without layers
abbrev pub bare : Table → Layered
bare table = Left (Left table)

-- the meaning of a table under an inverse layer
abbrev pub inverse_meaning : inverses.Inverse Table → Meaning
inverse_meaning s = with_turned s.turn.property s.turn.inverse (table_meaning s.below)

-- the meaning of a table, with its inverse layer if it has one
abbrev pub inverted_meaning : Inverted → Meaning
inverted_meaning = either_of table_meaning inverse_meaning

-- the meaning of the table with its layers
abbrev pub layered_meaning : Layered → Meaning
layered_meaning =
    either_of inverted_meaning (λ s. without (inverted_meaning s.below) (members s.gone))
