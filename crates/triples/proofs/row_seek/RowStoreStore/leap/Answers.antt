use Rattle.std.proofs.Common.{List, refl, ◌∙◌, subst}
use Rattle.std.proofs.lemmas.List.{map-id}
use Rattle.triples.specs.declared.triple.Triple.{Triple}
use Rattle.triples.specs.Meaning.{among}
use Rattle.triples.specs.Seeks.{Leapt}
use Rattle.triples.proofs.row_seek.RowStoreStore.leap.Goals as goal

pub returns : goal.returns
returns c = record {
  answer = subst
      (λ (ts : List Triple). Leapt (among ts) c.args.position c.args.selector c.args.bound
      c.leap.result)
      (map-id c.run.result.items.now ∙ c.run.ensures) c.leap.ensures;
  same = refl;
  kept = refl;
}
