use Rattle.std.proofs.Common.{arith}
use Rattle.bsonraw_c.proofs.TextRooms.{part_grows}
use Rattle.bsonraw_c.proofs.text_room.put_part.Goals as goal

pub returns : goal.returns
returns c = part_grows c.lay.ensures (omega arith) (omega arith)
