-- The store stands for what it stood for and keeps what it kept, and no number below this one is offered.
use Rattle.std.proofs.Common.{◌≡◌, ℕ, ◌≤◌}
use Rattle.triples.specs.Seeks.{Offer}
use Rattle.triples.proofs.store.Store.leap.Given as goal

abbrev pub invariant-loop-number : goal.invariant-loop-number
invariant-loop-number g l =
    (g.Self.Store.meaning l.self ≡ g.Self.Store.meaning l.initial.self)
    × (g.Self.Store.kept l.self ≡ g.Self.Store.kept l.initial.self)
    × ((n : ℕ) → Offer (g.Self.Store.meaning l.initial.self).has l.position l.selector l.bound n
    → l.number ≤ n)
