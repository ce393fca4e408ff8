use Rattle.query.specs.Shape.{shape}
use Rattle.algebra.proofs.Bits.{bit-mask}
use Rattle.algebra.proofs.Bounds.{answers-bounded}
use Rattle.algebra.proofs.Packings.{unpacked-packed, packed-apart, length-packed}
use Rattle.algebra.proofs.theorems.bytes_say_the_answer.Goals as goal

pub returns : goal.returns
returns g c = record {
  bits = bit-mask;
  read_back = unpacked-packed;
  apart = packed-apart;
  short = length-packed;
  small = answers-bounded (g.S.Store.meaning c.args.store.now) (g.C.Catalogue.entries c.args.catalogue.now)
      (g.S.Store.sound c.args.store.now) (shape c.args.query.now) c.args.query.now.keeps;
}
