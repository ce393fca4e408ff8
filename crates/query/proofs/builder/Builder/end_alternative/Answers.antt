use Rattle.std.proofs.Common.{not, ◌||◌, sym, refl, ap, ◌∙◌, rules}
use Rattle.query.specs.Drafts.{alternative_ended}
use Rattle.std.specs.List.{list_any}
use Rattle.query.specs.Lawful.{shares}
use Rattle.query.specs.Parts.{Group}
use Rattle.query.proofs.Building.{shares_found}
use Rattle.query.proofs.Lawful.{some_push}
use Rattle.query.proofs.builder.Builder.end_alternative.Goals as goal

pub returns : goal.returns
returns c = record {
  tracks = λ d h.
      let b = c.args.self.now in
      let apart = c.is_subset-apart.result in
      let g : Group = record { required = d.required; blocks = d.blocks; filter = d.nodes } in
      record {
        part = h.part;
        required = c.empty-self.ensures;
        once = c.empty-self-2.ensures;
        twice = c.empty-self-3.ensures;
        shared = ap (λ x. x || not apart) h.shared
            ∙ ap (λ x. list_any shares d.done || x)
            (shares_found b.required b.in_two_blocks g h.required h.twice apart c.is_subset-apart.ensures)
            ∙ sym (some_push shares d.done g);
        kept = c.keep.ensures alternative_ended (λ k k' r e. search rules) d h.kept;
      };
  used = refl;
}
