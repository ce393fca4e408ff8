use Rattle.std.proofs.Common.{List, sym, refl, subst, ⊎_elim, arith}
use Rattle.std.proofs.lemmas.Bool.{cases_eq}
use Rattle.triples.specs.declared.pair.Pair.{Pair}
use Rattle.triples.specs.Tables.{Ordered, NotAbove, triple_of}
use Rattle.triples.specs.Directory.{property_of, section}
use Rattle.triples.proofs.Lexical.{pairs_ascend, pairs_fall}
use Rattle.triples.proofs.Sections.{sections_ordered}
use Rattle.triples.proofs.table.Table.fall_in_entry.Goals as goal

pub returns-in-Some : goal.returns-in-Some
returns-in-Some c =
    let property = property_of c.args.self.now.directory.now c.loop-i.i in
    record {
      entry = c.loop-i.i;
      place = c.in-Some.place;
      inside = c.loop-i-test.true;
      falls = subst (λ (xs : List Pair). NotAbove (triple_of property) xs c.in-Some.place)
          c.pairs_of.ensures
          (pairs_fall property c.pairs_of.result.now c.in-Some.place c.in-Some.ensures);
      is = refl;
    }

pub loop-i-preserved : goal.loop-i-preserved
loop-i-preserved c k h =
    let dir = c.args.self.now.directory.now in
    let pairs = c.args.self.now.pairs.now in
    let property = property_of dir c.loop-i.i in
    ⊎_elim
    (λ e. subst (λ i. Ordered (triple_of (property_of dir i)) (section dir pairs i)) (sym e)
    (subst (λ (xs : List Pair). Ordered (triple_of property) xs) c.pairs_of.ensures
    (pairs_ascend property c.pairs_of.result.now c.in_default.ensures)))
    (λ ne. c.loop-i.invariant k (omega (arith, h, ne)))
    (cases_eq k c.loop-i.i)

pub returns : goal.returns
returns c =
    let end = c.loop-i-test.false in
    sections_ordered c.args.self.now.directory.now c.args.self.now.pairs.now
    (λ i h. c.loop-i.invariant i (omega (arith, end, h)))
