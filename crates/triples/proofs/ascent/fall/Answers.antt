use Rattle.std.proofs.Common.{rules, ◌≡◌, sym, ◌∙◌, subst, List, MatchOption}
use Rattle.std.proofs.lemmas.Iterator.{YieldsList-from_slice, YieldsList-from_zip, IsFirst-from_position}
use Rattle.std.proofs.lemmas.Iterator.Consumers.{YieldsList-at}
use Rattle.triples.specs.Ascent.{Ascends, Falls}
use Rattle.triples.proofs.Ascents.{Rises, Sinks, ascent_found}
use Rattle.triples.proofs.ascent.fall.Goals as goal

pub returns : goal.returns
returns g c =
    let cmp = g.T.Ord.cmp in
    let rest = c.in_ok-rest.rest.now in
    let x = c.in_ok-rest.field-0-0.now in
    let is = c.in_ok-rest.ensures.cases.0 in
    subst (λ (xs : List g.row.T.Denot). MatchOption c.map.result (Ascends (λ a b o. o ≡ cmp a b) xs)
    (Falls (λ a b o. o ≡ cmp a b) xs)) (sym is)
    (ascent_found cmp x rest c.position.result c.map.result (search rules)
    (IsFirst-from_position c.position.new.self _ c.position.result (Sinks cmp x rest) (Rises cmp x rest)
    c.position.ensures.ran
    (YieldsList-from_zip
    (YieldsList-at c.zip.ensures.first (YieldsList-from_slice _ (c.iter.ensures.rest ∙ is)))
    (YieldsList-from_slice rest c.zip.ensures.second.0))
    (λ p q k. search rules) (λ p q k. search rules)))
