use Rattle.raw_tree.proofs.walk.Rooms.{filled_one, filled_past}
use Rattle.raw_tree.proofs.walk.room.put_at.Goals as goal

pub returns-then-place-room : goal.returns-then-place-room
returns-then-place-room g c = filled_one c.args.place c.args.room.now c.args.item c.if-place-room.true

pub returns-else-place-room : goal.returns-else-place-room
returns-else-place-room g c = filled_past c.args.place c.args.room.now c.args.item c.if-place-room.false
