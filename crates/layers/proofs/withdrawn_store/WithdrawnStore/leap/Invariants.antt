-- The layer stands for what it stood for and keeps what it kept, and no number between the bound and this one
-- is offered.
use Rattle.std.proofs.Common.{◌≡◌, ◌+◌, ◌-◌}
use Rattle.triples.specs.Meaning.{Meaning, largest_top}
use Rattle.layers.specs.declared.triple_set.TripleSet.{TripleSet}
use Rattle.layers.specs.Members.{members}
use Rattle.layers.specs.Withdrawals.{without}
use Rattle.layers.proofs.Withdrawals.{LeaptPast}
use Rattle.layers.proofs.withdrawn_store.WithdrawnStore.leap.Given as goal

abbrev pub invariant-loop-number : goal.invariant-loop-number
invariant-loop-number g l =
    (without (g.S.Store.meaning l.self.below) (members l.self.gone)
    ≡ without (g.S.Store.meaning l.initial.self.below) (members l.initial.self.gone))
    × (◌≡◌ {A = Meaning × g.S.Store.Kept × TripleSet}
    (g.S.Store.meaning l.self.below, g.S.Store.kept l.self.below, l.self.gone)
    (g.S.Store.meaning l.initial.self.below, g.S.Store.kept l.initial.self.below, l.initial.self.gone))
    × LeaptPast (without (g.S.Store.meaning l.initial.self.below) (members l.initial.self.gone)).has
    l.position l.selector l.initial.from l.from

abbrev pub decreases-loop-number : goal.decreases-loop-number
decreases-loop-number g l = largest_top + 1 - l.from
