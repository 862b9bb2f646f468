use Rattle.std.proofs.Common.{rules, ◌≡◌, ◌+◌, OnOk}
use Rattle.dump_io.proofs.Face.{on_ok}
use Rattle.dump_commands.specs.diff.Numbering.{twins_at}
use Rattle.dump_commands.specs.diff.Sides.{side_of}
use Rattle.dump_commands.proofs.Twinning.{left_added}
use Rattle.dump_commands.proofs.diff.twins.add_one.Goals as goal

pub returns : goal.returns
returns c =
    let s = side_of c.args.side.now in
    let now : c.in-Some.count ≡ twins_at c.args.twins.now s.key s.form + 1 = search rules in
    on_ok c.put_count.result _ _ (λ u ss are. left_added s c.args.twins.now c.put_count.new.twins c.in-Some.count u now ss are) c.put_count.ensures
