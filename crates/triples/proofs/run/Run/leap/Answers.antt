use Rattle.std.proofs.Common.{map, sym, ◌∙◌, subst}
use Rattle.triples.specs.Meaning.{among}
use Rattle.triples.specs.Seeks.{Leapt}
use Rattle.triples.proofs.Seeks.{leapt_from_sought}
use Rattle.triples.proofs.run.Run.leap.Goals as goal

pub returns-in-Some : goal.returns-in-Some
returns-in-Some g c =
    let run = c.args.self.now in
    let has = among (map (g.T.Element.placed run.property) run.items.now) in
    subst (Leapt has c.args.position c.args.selector c.args.bound) (sym c.offered.ensures)
    (leapt_from_sought has c.args.position c.args.selector c.args.bound c.in-Some.start
    (sym c.aim.ensures ∙ c.in-Some.is) c.seek.result c.seek.ensures)
