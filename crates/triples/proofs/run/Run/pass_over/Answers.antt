-- The triples gone over decide: those before them are below the floor, those behind them are passed.
use Rattle.std.proofs.Common.{◌≡◌, Some, ◌+◌, get_or, sym, ap, ◌∙◌, subst, arith}
use Rattle.std.proofs.Common.{length-drop}
use Rattle.std.proofs.lemmas.List.{get_or-drop, get_or_default}
use Rattle.triples.specs.Finding.{Split, offer_of}
use Rattle.triples.specs.Selectors.{passed}
use Rattle.triples.proofs.Lists.{taken_rest}
use Rattle.triples.proofs.Finding.{passed_behind}
use Rattle.triples.specs.Unions.{lesser}
use Rattle.triples.proofs.Leaps.{better, better_more, leapt_gone}
use Rattle.triples.proofs.Unions.{least_lesser, lesser_none}
use Rattle.triples.proofs.run.Run.pass_over.Goals as goal
use Rattle.triples.proofs.run.Run.pass_over.Goals.{in-Some, in_default+else-is_passed}

pub loop-item-preserved : goal.loop-item-preserved
loop-item-preserved g c =
    let position = c.args.position in
    let selector = c.args.selector in
    let bound = c.args.bound in
    let triple = g.T.Element.placed c.args.self.now.property in
    let least = c.loop-item.least in
    elim c.match-offer.branch [
      | in-Some w ↦ w.least-is ∙ w.least_of-least.ensures ∙ least_lesser least (Some w.in-Some.number)
          ∙ ap (lesser least) (sym w.in-Some.is)
      | in_default+else-is_passed w ↦ w.least-is ∙ sym (lesser_none least)
          ∙ ap (lesser least) (sym w.in_default.is)
    ]
    ∙ ap (lesser least) (c.offer.ensures
    ∙ ap (λ t. offer_of t position selector bound) c.triple-triple.ensures)
    ∙ ap (λ l. better position selector bound l (triple c.item-item.result)) c.loop-item.invariant
    ∙ sym (better_more position selector bound triple _ c.loop-item.item-index c.item-item.result
    c.loop-item-test.true c.item-item.is)

pub returns-then-is_passed : goal.returns-then-is_passed
returns-then-is_passed g c =
    let items = c.args.self.now.items.now in
    let triple = g.T.Element.placed c.args.self.now.property in
    let from = c.lower_bound-from.result in
    let i = c.loop-item.item-index in
    let inside = c.loop-item-test.true in
    let met : (d : _) → get_or items (from + i) d ≡ c.item-item.result =
    λ d. get_or_default items (from + i) d c.item-item.result (omega (arith, inside, length-drop from items))
    ∙ sym (get_or-drop from items i c.item-item.result)
    ∙ ap (λ xs. get_or xs i c.item-item.result) (sym (taken_rest from items)) ∙ sym c.item-item.is in
    leapt_gone c.args.position c.args.selector c.args.bound triple items _ from i c.loop-item.least
    (subst (λ t. Split triple items t from) c.into.ensures c.lower_bound-from.ensures)
    (taken_rest from items)
    c.loop-item.invariant
    (λ k d low high. passed_behind triple items c.args.self.now.ordered c.args.selector (from + i) k d
    (ap (λ x. passed c.args.selector (triple x)) (met d)
    ∙ ap (passed c.args.selector) (sym c.triple-triple.ensures)
    ∙ sym c.is_passed.ensures ∙ c.if-is_passed.true) low high)

pub returns : goal.returns
returns g c =
    let items = c.args.self.now.items.now in
    let triple = g.T.Element.placed c.args.self.now.property in
    let from = c.lower_bound-from.result in
    leapt_gone c.args.position c.args.selector c.args.bound triple items _ from c.loop-item.item-index
    c.loop-item.least
    (subst (λ t. Split triple items t from) c.into.ensures c.lower_bound-from.ensures)
    (taken_rest from items)
    c.loop-item.invariant
    (λ k d low high. absurd (omega (arith, low, high, c.loop-item-test.false, length-drop from items)))
