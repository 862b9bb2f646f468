use Rattle.std.proofs.Common.{◌∷◌, ◌++◌}
use Rattle.json.specs.Token.{begin_object}
use Rattle.dump_io.specs.lines.Find.{account_of}
use Rattle.dump_io.specs.lines.Told.{head_members, members_of}
use Rattle.dump_io.proofs.lines.Objects.{has_more}
use Rattle.dump_io.proofs.lines.object.told_object.Goals as goal

pub returns : goal.returns
returns c =
    let head = head_members c.args.name.now c.args.offset in
    let more = members_of (account_of c.args.told.now) in
    let is = has_more c.in_ok-object.object c.put_told.new.object (begin_object ∷ head) more c.in_ok-object.ensures c.in_ok-put_told.ensures in
    c.ended.ensures (head ++ more) is.0 is.1
