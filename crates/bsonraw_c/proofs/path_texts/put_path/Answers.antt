use Rattle.std.proofs.Common.{[], inr, refl}
use Rattle.bsonraw_c.proofs.TextRooms.{grows_none}
use Rattle.bsonraw_c.proofs.path_texts.put_path.Goals as goal

pub returns-in-Err : goal.returns-in-Err
returns-in-Err c = ([], inr (c.in-Err.field-0, c.in-Err.ensures.refused, refl), grows_none c.args.room.now 0)
