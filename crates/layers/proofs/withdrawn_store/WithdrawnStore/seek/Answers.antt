-- The match found is the first that is not withdrawn.
use Rattle.std.proofs.Common.{ap, sym, refl, ◌∙◌, rules, tests}
use Rattle.triples.specs.Meaning.{Meaning}
use Rattle.layers.specs.Members.{members}
use Rattle.layers.specs.Withdrawals.{without}
use Rattle.layers.proofs.Searches.{Found, found}
use Rattle.layers.proofs.withdrawn_store.WithdrawnStore.seek.Given.{Over}
use Rattle.layers.proofs.withdrawn_store.WithdrawnStore.seek.Goals.{After-find}
use Rattle.layers.proofs.withdrawn_store.WithdrawnStore.seek.Goals as goal

-- what the search found among the matches of the store below
searched : (g : Over) (c : After-find g)
    → Found g.S.Store.meaning g.S.Store.kept c.new.result (g.S.Store.meaning c.args.self.now.below)
    (g.S.Store.kept c.args.self.now.below) (members c.args.self.now.gone) c.args.selector c.args.start
    c.find.result c.find.new.self
searched g c =
    found g.S.Store.meaning g.S.Store.kept _ _ _ _ _ _ _ _ (λ x b q k. search (rules, tests))
    (ap g.S.Store.meaning c.new.ensures.store) (ap g.S.Store.kept c.new.ensures.store)
    c.new.ensures.selector c.new.ensures.start c.find.ensures.ran

pub shape_of-self : goal.shape_of-self
shape_of-self g c =
    let it = searched g (goal.at.shape_of-self g c).After-find in
    sym (it.reference ∙ c.new.ensures.same_reference)

pub returns-clause-answer : goal.returns-clause-answer
returns-clause-answer g c = (searched g (goal.at.returns-clause-answer g c).After-find).answer

pub returns-clause-same : goal.returns-clause-same
returns-clause-same g c =
    ap (λ (m : Meaning). without m (members c.args.self.now.gone))
    (searched g (goal.at.returns-clause-same g c).After-find).same

pub returns-clause-kept : goal.returns-clause-kept
returns-clause-kept g c =
    let it = searched g (goal.at.returns-clause-kept g c).After-find in
    rw it.same (rw it.keeps refl)
