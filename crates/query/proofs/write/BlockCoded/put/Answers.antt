use Rattle.std.proofs.Common.{sym, subst}
use Rattle.std.proofs.lemmas.Bool.{and_parts}
use Rattle.query.specs.Lawful.{lawful_triple, lawful_triples, lawful_filter}
use Rattle.query.specs.Parts.{part_of}
use Rattle.query.specs.Writes.{places_lawful}
use Rattle.query.proofs.Sound.{Writable, triples_writable, filter_writable}
use Rattle.query.proofs.write.BlockCoded.put.Goals as goal

pub put-requires-clause-sound : goal.put-requires-clause-sound
put-requires-clause-sound c =
    let b = part_of c.args.self.now in
    let l = and_parts (lawful_triples 1 b.triples) (lawful_filter b.filter) c.requires.sound in (
      subst (Writable lawful_triple) (sym c.as_slice.ensures.value) (triples_writable 1 b.triples l.0),
      subst (Writable places_lawful) (sym c.as_slice-2.ensures.value) (filter_writable b.filter l.1),
    )
