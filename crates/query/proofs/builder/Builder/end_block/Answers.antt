use Rattle.std.proofs.Common.{◌||◌, refl, sym, ap, ◌∙◌, rules}
use Rattle.query.specs.Drafts.{block_ended}
use Rattle.std.specs.List.{list_any}
use Rattle.query.specs.Parts.{Part}
use Rattle.query.specs.Variables.{member, mentioned}
use Rattle.query.proofs.Building.{twice_push}
use Rattle.query.proofs.Lawful.{some_push}
use Rattle.query.proofs.builder.Builder.end_block.Goals as goal

pub returns : goal.returns
returns c = record {
  tracks = λ d h.
      let b = c.args.self.now in
      let block : Part = record { triples = d.triples; filter = d.nodes } in
      record {
        part = c.empty-self.ensures;
        required = h.required;
        once = λ v l.
            c.union-self-2.ensures v l ∙ ap (λ x. x || member v b.part) (h.once v l)
            ∙ ap (λ x. list_any (mentioned v) d.blocks || x) (h.part v l) ∙ sym (some_push (mentioned v)
            d.blocks block);
        twice = λ v l.
            c.union-self.ensures v l ∙ ap (λ x. member v b.in_two_blocks || x)
            (c.intersection-again.ensures v l)
            ∙ twice_push v d.blocks block _ _ _ (h.twice v l) (h.once v l) (h.part v l);
        shared = h.shared;
        kept = c.keep.ensures block_ended (λ k k' r e. search rules) d h.kept;
      };
  used = refl;
}
