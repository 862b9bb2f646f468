use Rattle.std.proofs.Common.{◌∷◌, ◌++◌}
use Rattle.json.specs.Token.{begin_object}
use Rattle.dump_io.specs.lines.Told.{first_members, head_members}
use Rattle.dump_io.specs.lines.Origins.{origin_of}
use Rattle.dump_io.proofs.lines.Objects.{has_more}
use Rattle.dump_io.proofs.lines.object.repeat_object.Goals as goal

pub returns : goal.returns
returns c =
    let head = head_members c.args.origin.name.now c.args.origin.offset in
    let more = first_members (origin_of c.args.first) in
    let is = has_more c.in_ok-object.object c.put_first.new.object (begin_object ∷ head) more c.in_ok-object.ensures c.in_ok-put_first.ensures in
    c.ended.ensures (head ++ more) is.0 is.1
