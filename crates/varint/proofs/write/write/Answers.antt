-- The bytes of n go where there is room for them.
use Rattle.std.proofs.Common.{◌+◌, ◌++◌, length, take, drop, refl, ap, ◌∙◌, append_assoc, arith}
use Rattle.std.proofs.lemmas.List.{take_all}
use Rattle.std.proofs.lemmas.Slice.{put_mid-paste}
use Rattle.varint.specs.Encode.{encode}
use Rattle.varint.proofs.Laws.{length-encode}
use Rattle.varint.proofs.write.write.Goals as goal

pub slice_bounds-put-end : goal.slice_bounds-put-end
slice_bounds-put-end c = omega (arith, length-encode c.args.n)

pub returns : goal.returns
returns c =
    let out = c.args.out.now
    in let at = c.args.at
    in let bytes = encode c.args.n
    in (
      omega (arith, length-encode c.args.n),
      c.length_of-length.ensures,
      put_mid-paste at _ out _ bytes (length bytes) c.put.ensures (omega arith) refl
          ∙ append_assoc (take at out) (take (length bytes) bytes) (drop (at + length bytes) out)
          ∙ ap (λ front. take at out ++ (front ++ drop (at + length bytes) out))
          (take_all (length bytes) bytes (omega arith)),
    )
