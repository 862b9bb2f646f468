use Rattle.std.proofs.Common.{arith}
use Rattle.bsonraw_c.proofs.TextRooms.{text_ends}
use Rattle.bsonraw_c.proofs.text_room.end_text.Goals as goal

pub returns : goal.returns
returns c = text_ends c.args.room.now c.lay.new.room c.args.count c.min.result c.lay.ensures (omega arith) (omega arith)
