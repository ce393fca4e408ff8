use Rattle.std.proofs.Common.{List, map, ◌∙◌, subst, subst₂}
use Rattle.triples.specs.declared.pair.Pair.{Pair}
use Rattle.triples.specs.declared.position.Position.TheVariants.{Property}
use Rattle.triples.specs.Selectors.{select}
use Rattle.triples.specs.Meaning.{among}
use Rattle.triples.specs.Tables.{triple_of}
use Rattle.triples.specs.Seeks.{Sought}
use Rattle.triples.proofs.Unions.{least_earlier}
use Rattle.triples.proofs.property_store.PropertyStore.seek_entry.Goals as goal

pub returns : goal.returns
returns c =
    let r = c.seek.result in
    let has = among (map (triple_of c.run-run.result.property) c.run-run.result.items.now) in (
      r,
      subst₂
          (λ n (xs : List Pair). Sought (among (map (triple_of n) xs)) (select c.args.selector Property n)
          c.args.start r)
          c.run-run.ensures.property c.run-run.ensures.items
          (subst (λ s. Sought has s c.args.start r) c.with-known.ensures c.seek.ensures),
      c.least_of.ensures ∙ least_earlier c.args.least r,
    )
