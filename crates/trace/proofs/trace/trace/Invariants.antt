-- The store means what it meant and keeps what it kept, the marks have a place for each term, and the levels
-- so far are whole.
use Rattle.std.proofs.Common.{◌≡◌, ◌+◌, ◌<◌, length, vec_items}
use Rattle.trace.specs.Marks.{unmarked}
use Rattle.trace.proofs.Steps.{Layers}
use Rattle.trace.proofs.trace.trace.Given as goal

abbrev pub invariant-levels : goal.invariant-levels
invariant-levels g l =
    (g.S.Store.meaning l.store ≡ g.S.Store.meaning l.initial.store)
    × (g.S.Store.kept l.store ≡ g.S.Store.kept l.initial.store)
    × ((g.S.Store.meaning l.initial.store).top < length (vec_items l.seen))
    × Layers (g.S.Store.meaning l.initial.store).has l.term (vec_items l.reached)
    (vec_items l.front) (vec_items l.seen)

abbrev pub decreases-levels : goal.decreases-levels
decreases-levels g l = unmarked (vec_items l.seen) + length (vec_items l.front)
