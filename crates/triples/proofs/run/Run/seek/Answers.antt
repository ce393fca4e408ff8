use Rattle.std.proofs.Common.{not, drop, sym, ap, ◌∙◌, subst, rules, tests}
use Rattle.std.proofs.lemmas.Iterator.{YieldsList-from_slice, YieldsList-from_map}
use Rattle.std.proofs.lemmas.Iterator.Consumers.{YieldsList-at}
use Rattle.std.proofs.lemmas.Iterator.Search.{YieldsList-from_take_while, find_from_yields_List}
use Rattle.std.proofs.lemmas.Iterator.Adapters.{option_map_id}
use Rattle.triples.specs.Selectors.{matches, passed}
use Rattle.triples.specs.Seeks.{Sought}
use Rattle.triples.specs.Finding.{Split, later}
use Rattle.triples.proofs.Lists.{taken_rest}
use Rattle.triples.proofs.Lexical.{max_later}
use Rattle.triples.proofs.Finding.{sought_reachable}
use Rattle.triples.proofs.run.Run.seek.Goals as goal

pub returns : goal.returns
returns g c =
    let run = c.args.self.now in
    let triple = g.T.Element.placed run.property in
    let found = find_from_yields_List (matches c.args.selector) _ _ c.find.result c.find.ensures.ran
    (YieldsList-from_take_while _ (λ t. not (passed c.args.selector t))
    (YieldsList-at c.take_while.ensures.source
    (YieldsList-from_map _ triple
    (YieldsList-at c.map.ensures.source (YieldsList-from_slice
    (drop c.lower_bound-from.result run.items.now)
    (c.iter.ensures.rest ∙ taken_rest c.lower_bound-from.result run.items.now)))
    c.map.ensures.closure (λ x r q k. search rules)))
    c.take_while.ensures.closure c.take_while.ensures.done (λ x b q k. search (rules, tests)))
    (λ x b q k. search (rules, tests)) in
    subst (Sought _ c.args.selector c.args.start) (sym found ∙ option_map_id c.find.result)
    (sought_reachable triple run.items.now c.args.selector c.args.start c.lower_bound-from.result
    (subst (λ t. Split triple run.items.now t c.lower_bound-from.result)
    (c.max.ensures ∙ max_later c.args.start c.into.result ∙ ap (later c.args.start) c.into.ensures)
    c.lower_bound-from.ensures)
    run.ordered)
