-- With the last member moved to the place, the members are those but the triple.
use Rattle.std.proofs.Common.{arith, is_some, refl, sym, subst}
use Rattle.layers.specs.Members.{members}
use Rattle.layers.specs.Sets.{Removed}
use Rattle.layers.proofs.Sets.{placed_among, once_left, removed_left}
use Rattle.layers.proofs.triple_set.TripleSet.take.Goals as goal

pub returns-in_err-place : goal.returns-in_err-place
returns-in_err-place c =
    let xs = members c.args.self.now in
    subst (λ r. Removed xs c.args.triple (is_some r) xs) (sym c.from_residual.ensures)
    (sym (placed_among xs c.args.triple c.in_err-place.ensures), refl)

pub invariant_of-self : goal.invariant_of-self
invariant_of-self c = record {
  few = omega (arith, c.args.self.now.few, c.swap_remove.ensures.len);
  once = once_left (members c.args.self.now) _ c.in_ok-place.place c.args.triple c.swap_remove.result
      c.args.self.now.once c.in_ok-place.ensures c.swap_remove.ensures.value c.swap_remove.ensures.items;
}

pub returns : goal.returns
returns c =
    removed_left (members c.args.self.now) _ c.in_ok-place.place c.args.triple c.swap_remove.result
    c.args.self.now.once c.in_ok-place.ensures c.swap_remove.ensures.value c.swap_remove.ensures.items
    c.swap_remove.ensures.len
