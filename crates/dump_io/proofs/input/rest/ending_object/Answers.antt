use Rattle.std.proofs.Common.{◌∷◌, ◌++◌}
use Rattle.json.specs.Token.{begin_object}
use Rattle.dump_io.specs.input.Endings.{ending_members, rest_members}
use Rattle.dump_io.specs.lines.Told.{head_members}
use Rattle.dump_io.proofs.lines.Objects.{has_more}
use Rattle.dump_io.proofs.input.rest.ending_object.Goals as goal

pub returns : goal.returns
returns c =
    let head = head_members c.args.name.now c.args.offset in
    let why = ending_members c.args.ending in
    let over = rest_members c.args.rest in
    let first = has_more c.in_ok-object.object c.put_ending.new.object (begin_object ∷ head) why c.in_ok-object.ensures c.in_ok-put_ending.ensures in
    let second = has_more c.put_ending.new.object c.put_rest.new.object _ over first c.in_ok-put_rest.ensures in
    c.ended.ensures (head ++ why ++ over) second.0 second.1
