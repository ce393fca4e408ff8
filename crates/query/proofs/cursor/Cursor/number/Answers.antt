use Rattle.std.proofs.Common.{◌≡◌, ◌≤◌, length}
use Rattle.varint.specs.Decode.{decode, decoded}
use Rattle.query.proofs.Numbers.{decoded_answer, number_within}
use Rattle.query.proofs.cursor.Cursor.number.Goals as goal
use Rattle.query.proofs.cursor.Cursor.number.Goals.{In-Ok}

-- the bytes begin with the number
begins : (c : In-Ok) → decode c.args.self.now.rest.now ≡ decoded c.in-Ok.number.value c.in-Ok.number.length
begins c = decoded_answer (decode c.args.self.now.rest.now) c.in-Ok.number c.in-Ok.ensures

-- and hold the whole of it
within : (c : In-Ok) → c.in-Ok.number.length ≤ length c.args.self.now.rest.now
within c = number_within c.args.self.now.rest.now c.in-Ok.number.value c.in-Ok.number.length (begins c)

pub split_at-requires : goal.split_at-requires
split_at-requires c = within (goal.at.split_at-requires c).In-Ok
