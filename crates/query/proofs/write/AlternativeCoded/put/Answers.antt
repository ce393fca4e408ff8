use Rattle.std.proofs.Common.{◌≡◌, ℕ, List, ◌++◌, sym, ap, ◌∙◌, subst, vec_items, arith}
use Rattle.query.specs.Format.{counted, triple_bytes, node_bytes, part_bytes, group_bytes}
use Rattle.query.specs.Lawful.{lawful_triple, lawful_part}
use Rattle.query.specs.Limits.{most_blocks}
use Rattle.query.specs.Parts.{part_of, group_of}
use Rattle.query.specs.Writes.{Fits, Puts, places_lawful}
use Rattle.query.proofs.Limits.{group_limits}
use Rattle.query.proofs.Sound.{Writable, triples_writable, filter_writable, mapped_writable, counted-map}
use Rattle.query.proofs.write.AlternativeCoded.put.Goals as goal
use Rattle.query.proofs.write.AlternativeCoded.put.Goals.{After-as_slice-3}

same_three : {x x' y y' z z' : List ℕ} → x ≡ x' → y ≡ y' → z ≡ z' → x ++ (y ++ z) ≡ x' ++ (y' ++ z')
same_three p q r = cc

-- the bytes of the three lists are those of the alternative
whole : (c : After-as_slice-3)
    → counted triple_bytes c.as_slice-3.result.now
    ++ (counted (λ b. part_bytes (part_of b)) c.as_slice.result.now ++ counted node_bytes
    c.as_slice-2.result.now)
    ≡ group_bytes (group_of c.args.self.now)
whole c =
    let a = c.args.self.now in
    let blocks = ap (counted (λ b. part_bytes (part_of b))) c.as_slice.ensures.value
    ∙ counted-map part_of part_bytes (vec_items a.blocks) in
    let filter = ap (counted node_bytes) c.as_slice-2.ensures.value in
    let required = ap (counted triple_bytes) c.as_slice-3.ensures.value in
    same_three required blocks filter

pub put-requires-clause-sound : goal.put-requires-clause-sound
put-requires-clause-sound c =
    let a = c.args.self.now in
    let l = group_limits (group_of a) c.requires.sound in (
      subst (Writable lawful_triple) (sym c.as_slice-3.ensures.value)
          (triples_writable 0 (vec_items a.required) l.required),
      (
        subst (Writable (λ b. lawful_part (part_of b))) (sym c.as_slice.ensures.value)
            (mapped_writable part_of lawful_part 0 most_blocks (vec_items a.blocks) (omega arith) l.few
            l.blocks),
        subst (Writable places_lawful) (sym c.as_slice-2.ensures.value)
            (filter_writable (vec_items a.filter) l.filter),
      ),
    )

pub put-requires-clause-room : goal.put-requires-clause-room
put-requires-clause-room c =
    subst (λ l. Fits l c.args.writer.now) (sym (whole (goal.at.put-requires-clause-room c).After-as_slice-3))
    c.requires.room

pub returns : goal.returns
returns c =
    subst (λ l. Puts l c.args.writer.now c.put.new.writer) (whole (goal.at.returns c).After-as_slice-3)
    c.put.ensures
