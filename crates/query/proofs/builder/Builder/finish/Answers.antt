use Rattle.std.proofs.Common.{◌≡◌, Some, None, Option, refl, rules, sym}
use Rattle.std.specs.Option.{MatchOption, IsSomeAnd}
use Rattle.std.proofs.lemmas.Option.{none-some}
use Rattle.query.specs.declared.kept.Kept.{Kept}
use Rattle.query.specs.declared.query.Query.{Query}
use Rattle.query.specs.declared.builder.Builder.{Builder}
use Rattle.query.specs.Building.{Finished}
use Rattle.query.specs.Drafts.{draft_of}
use Rattle.query.specs.Shape.{shape}
use Rattle.query.proofs.builder.Builder.finish.Goals as goal

-- what is made of what is kept, if anything is, is the query that has come in
finished : (b : Builder) (o : Option Kept) (r : Option Query) (Made : Kept → Query → Type 0) → b.kept ≡ o
    → ((k : Kept) (q : Query) → Made k q → shape q ≡ (draft_of k).done)
    → MatchOption o (r ≡ None) (λ k. IsSomeAnd r (Made k)) → Finished b r
finished b None None Made is made h = is
finished b None (Some q) Made is made h = absurd (none-some q (sym h))
finished b (Some k) None Made is made h = absurd h
finished b (Some k) (Some q) Made is made h = (k, (is, made k q h))

pub returns : goal.returns
returns c = finished c.args.self c.args.self.kept c.map.result _ refl (λ k q h. search rules)
    c.map.ensures.cases
