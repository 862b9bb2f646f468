use Rattle.dump_commands.specs.state.Fields.{kind_words, kinds}
use Rattle.dump_commands.proofs.state.Tabled.{given_more, kinds_all}
use Rattle.dump_commands.proofs.state.path_lines.push_kinds.Goals as goal

pub loop-kind-preserved : goal.loop-kind-preserved
loop-kind-preserved c =
    given_more (kind_words c.args.row.now) kinds c.loop-kind.kind-index _ c.args.text.now.items c.loop-kind.text.items c.push_kind_count.new.text.items
    c.loop-kind-test.true c.loop-kind.invariant c.in_ok-push_kind_count.ensures

pub returns : goal.returns
returns c = kinds_all c.args.row.now c.loop-kind.kind-index c.args.text.now.items c.loop-kind.text.items c.loop-kind-test.false c.loop-kind.invariant
