-- With the triple behind them, the members are still different, and no more than there is room for.
use Rattle.std.proofs.Common.{◌≡◌, cond, [], ◌∷◌, ◌++◌, is_ok, length, ltb, rules}
use Rattle.layers.specs.Members.{members}
use Rattle.layers.specs.Sets.{most_withdrawn}
use Rattle.layers.proofs.Sets.{few_added, once_added}
use Rattle.layers.proofs.triple_set.TripleSet.add.Goals as goal

pub invariant_of-self : goal.invariant_of-self
invariant_of-self c =
    let s = c.args.self.now in
    let e : c.try_push.new.self.items ≡ cond (is_ok c.try_push.result) (members s ++ c.args.triple ∷ [])
    (members s) = search rules in
    let room : is_ok c.try_push.result ≡ ltb (length (members s)) most_withdrawn = search rules in
    record {
      few = few_added (is_ok c.try_push.result) (members s) _ c.args.triple s.few room e;
      once = once_added (is_ok c.try_push.result) (members s) _ c.args.triple s.once c.requires e;
    }
