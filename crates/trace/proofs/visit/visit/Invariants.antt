-- The store means what it meant and keeps what it kept, and the objects before the start of what is left are
-- gathered.
use Rattle.std.proofs.Common.{◌≡◌, vec_items}
use Rattle.trace.proofs.Levels.{VisitedTo, of_subject}
use Rattle.trace.proofs.visit.visit.Given as goal

abbrev pub invariant-loop-triple : goal.invariant-loop-triple
invariant-loop-triple g l =
    (l.triple-iterator.store.ghost_name ≡ l.initial.triple-iterator.store.ghost_name)
    × (g.S.Store.meaning l.triple-iterator.store.now ≡ g.S.Store.meaning l.fn.store)
    × (g.S.Store.kept l.triple-iterator.store.now ≡ g.S.Store.kept l.fn.store)
    × (l.triple-iterator.selector ≡ of_subject l.term)
    × VisitedTo (g.S.Store.meaning l.fn.store).has l.term l.triple-iterator.start
    l.initial.seen (vec_items l.initial.found) l.seen (vec_items l.found)
