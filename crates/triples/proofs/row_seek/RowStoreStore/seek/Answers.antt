use Rattle.std.proofs.Common.{List, refl, ◌∙◌, subst}
use Rattle.std.proofs.lemmas.List.{map-id}
use Rattle.triples.specs.declared.triple.Triple.{Triple}
use Rattle.triples.specs.Meaning.{among}
use Rattle.triples.specs.Seeks.{Sought}
use Rattle.triples.proofs.row_seek.RowStoreStore.seek.Goals as goal

pub returns : goal.returns
returns c = record {
  answer = subst
      (λ (ts : List Triple). Sought (among ts) c.args.selector c.args.start c.seek.result)
      (map-id c.run.result.items.now ∙ c.run.ensures) c.seek.ensures;
  same = refl;
  kept = refl;
}
