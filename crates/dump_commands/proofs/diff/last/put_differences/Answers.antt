use Rattle.std.proofs.Common.{rules, ◌++◌, OnOk, codes}
use Rattle.dump_io.specs.lines.Told.{Grows}
use Rattle.dump_io.proofs.Face.{grows_more, on_ok}
use Rattle.dump_commands.specs.Summary.{count_members}
use Rattle.dump_commands.proofs.diff.last.put_differences.Goals as goal

pub returns : goal.returns
returns c =
    let old = c.args.object.now in
    let one = c.put_number.new.object in
    let two = c.put_number-2.new.object in
    let three = c.put_number-3.new.object in
    let new = c.put_number-4.new.object in
    let same = count_members (codes "same", c.args.differences.same) in
    let changed = count_members (codes "changed", c.args.differences.changed) in
    let removed = count_members (codes "removed", c.args.differences.removed) in
    let added = count_members (codes "added", c.args.differences.added) in
    let both = grows_more old one two same changed c.in_ok-put_number.ensures c.in_ok-put_number-2.ensures in
    let all = grows_more old two three (same ++ changed) removed both c.in_ok-put_number-3.ensures in
    let put : OnOk c.put_number-4.result (Grows three new added) = c.put_number-4.ensures in
    on_ok c.put_number-4.result (Grows three new added) (Grows old new (same ++ changed ++ removed ++ added)) (λ m. grows_more old three new (same ++ changed ++ removed) added all m) put
