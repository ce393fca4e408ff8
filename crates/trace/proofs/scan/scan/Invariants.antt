-- The store means what it meant and keeps what it kept, and what is found are the matches before the start of
-- what is left.
use Rattle.std.proofs.Common.{◌≡◌, vec_items}
use Rattle.trace.proofs.Scans.{ScannedTo}
use Rattle.trace.proofs.scan.scan.Given as goal

abbrev pub invariant-loop-triple : goal.invariant-loop-triple
invariant-loop-triple g l =
    let first = l.initial.triple-iterator in
    (l.triple-iterator.store.ghost_name ≡ first.store.ghost_name)
    × (g.S.Store.meaning l.triple-iterator.store.now ≡ g.S.Store.meaning first.store.now)
    × (g.S.Store.kept l.triple-iterator.store.now ≡ g.S.Store.kept first.store.now)
    × (l.triple-iterator.selector ≡ first.selector)
    × ScannedTo (g.S.Store.meaning first.store.now).has first.selector l.triple-iterator.start
    (vec_items l.found)
