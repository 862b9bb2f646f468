use Rattle.std.proofs.Common.{◌≡◌, ◌-◌, ◌∙◌, ap, arith, sym}
use Rattle.dump_commands.specs.diff.Numbering.{twins_at}
use Rattle.dump_commands.specs.diff.Sides.{side_of}
use Rattle.dump_commands.proofs.Twinning.{left_same, left_taken}
use Rattle.dump_commands.proofs.diff.twins.take_one.Goals as goal

pub returns-then-count-eq0-clause-taken : goal.returns-then-count-eq0-clause-taken
returns-then-count-eq0-clause-taken c ss taken are =
    let s = side_of c.args.side.now in
    let none : twins_at c.args.twins.now s.key s.form ≡ 0 = omega (arith, c.count_of-count.ensures, c.if-count-eq0.true) in
    left_same s c.args.twins.now none ss taken are

pub returns-clause-taken : goal.returns-clause-taken
returns-clause-taken c ss taken are =
    let s = side_of c.args.side.now in
    let count = c.count_of-count.result in
    left_taken s c.args.twins.now c.put_count.new.twins (count - 1) c.in_ok-put_count.ensures (ap (λ n. n - 1) c.count_of-count.ensures) ss taken are
