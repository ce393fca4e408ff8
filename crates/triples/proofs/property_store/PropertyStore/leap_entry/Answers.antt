use Rattle.std.proofs.Common.{List, map, ◌∙◌, subst, subst₂}
use Rattle.triples.specs.declared.pair.Pair.{Pair}
use Rattle.triples.specs.declared.position.Position.TheVariants.{Property}
use Rattle.triples.specs.Selectors.{select}
use Rattle.triples.specs.Meaning.{among}
use Rattle.triples.specs.Tables.{triple_of}
use Rattle.triples.specs.Seeks.{Leapt}
use Rattle.triples.proofs.Unions.{least_lesser}
use Rattle.triples.proofs.property_store.PropertyStore.leap_entry.Goals as goal

pub returns : goal.returns
returns c =
    let r = c.leap.result in
    let has = among (map (triple_of c.run-run.result.property) c.run-run.result.items.now) in (
      r,
      subst₂
          (λ n (xs : List Pair). Leapt (among (map (triple_of n) xs)) c.args.position
          (select c.args.selector Property n) c.args.bound r)
          c.run-run.ensures.property c.run-run.ensures.items
          (subst (λ s. Leapt has c.args.position s c.args.bound r) c.with-known.ensures c.leap.ensures),
      c.least_of.ensures ∙ least_lesser c.args.least r,
    )
