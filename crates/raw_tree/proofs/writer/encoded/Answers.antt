use Rattle.std.proofs.Common.{arith}
use Rattle.raw_tree.proofs.Common.{HasRoomFor, tree_of_container}
use Rattle.raw_tree.proofs.writer.WrittenMembers.{refused_memory}
use Rattle.raw_tree.proofs.writer.encoded.Goals as goal
use Rattle.raw_tree.proofs.writer.encoded.Goals.{In_ok-out}

-- there is room for the tree
has_room : (c : In_ok-out) → HasRoomFor (tree_of_container c.args.container) c.in_ok-out.out
has_room c = c.in_ok-out.ensures.ok (tree_of_container c.args.container) c.measure.ensures

pub write-requires : goal.write-requires
write-requires c = grind (arith, has_room)

pub returns-in_err-write-clause-err : goal.returns-in_err-write-clause-err
returns-in_err-write-clause-err c = grind (arith, has_room, refused_memory)

pub returns-clause-ok : goal.returns-clause-ok
returns-clause-ok c = let room = has_room (goal.at.returns-clause-ok c).In_ok-out in (room.0, room.1, c.in_ok-write.ensures.items)
