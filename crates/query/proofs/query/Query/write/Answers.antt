use Rattle.std.proofs.Common.{◌≡◌, not, length, vec_items, sym, ap, ◌∙◌, subst, arith, rules}
use Rattle.std.proofs.lemmas.Bool.{and_parts}
use Rattle.query.specs.Format.{group_bytes, counted, bytes_of}
use Rattle.query.specs.Shape.{shape}
use Rattle.std.specs.List.{list_any}
use Rattle.query.specs.Lawful.{lawful_group, limited, shares}
use Rattle.query.specs.Limits.{most_alternatives}
use Rattle.query.specs.Parts.{group_of}
use Rattle.query.specs.Writes.{Put}
use Rattle.query.proofs.Limits.{query_limits}
use Rattle.query.proofs.Sound.{Writable, mapped_writable, counted-map}
use Rattle.query.proofs.query.Query.write.Goals as goal
use Rattle.query.proofs.query.Query.write.Goals.{After-as_slice}

-- the bytes of the list of alternatives are those of the query
whole : (c : After-as_slice)
    → counted (λ a. group_bytes (group_of a)) c.as_slice.result.now ≡ bytes_of (shape c.args.self.now)
whole c =
    ap (counted (λ a. group_bytes (group_of a))) c.as_slice.ensures.value
    ∙ counted-map group_of group_bytes (vec_items c.args.self.now.alternatives)

pub put-requires-clause-sound : goal.put-requires-clause-sound
put-requires-clause-sound c =
    let q = c.args.self.now in
    let gs = shape q in
    let l = query_limits gs (and_parts (limited gs) (not (list_any shares gs)) q.keeps).0 in
    subst (Writable (λ a. lawful_group (group_of a))) (sym c.as_slice.ensures.value)
    (mapped_writable group_of lawful_group 1 most_alternatives (vec_items q.alternatives) (omega arith) l.few
    l.groups)

pub put-requires-clause-room : goal.put-requires-clause-room
put-requires-clause-room c =
    let q = c.args.self.now in
    omega (arith, ap length (whole (goal.at.put-requires-clause-room c).After-as_slice), q.measured)

via : {A : Type 0} (y : A) {x z : A} → x ≡ y → y ≡ z → x ≡ z
via y p q = p ∙ q

pub returns : goal.returns
returns c =
    let q = c.args.self.now in
    let end = c.put.new.writer in
    let put = subst (λ l. Put l 0 c.args.out.now end.at end.out.now) (whole (goal.at.returns
    c).After-as_slice)
    c.put.ensures.put in
    (omega (arith, q.measured), omega (arith, put.0), via end.out.now (search rules) put.1)
