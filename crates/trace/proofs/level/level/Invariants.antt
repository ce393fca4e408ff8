-- The store means what it meant and keeps what it kept, and what the terms passed lead to is gathered.
use Rattle.std.proofs.Common.{◌≡◌, take, vec_items}
use Rattle.trace.specs.Levels.{From}
use Rattle.trace.specs.Marks.{Gathered}
use Rattle.trace.proofs.level.level.Given as goal

abbrev pub invariant-loop-term : goal.invariant-loop-term
invariant-loop-term g l =
    (g.S.Store.meaning l.store ≡ g.S.Store.meaning l.initial.store)
    × (g.S.Store.kept l.store ≡ g.S.Store.kept l.initial.store)
    × Gathered (From (g.S.Store.meaning l.initial.store).has (take l.term-index l.front))
    l.initial.seen l.seen (vec_items l.found)
