use Rattle.std.proofs.Common.{List, [], map, subst, sym, take}
use Rattle.std.proofs.lemmas.List.{map_more}
use Rattle.dump_commands.specs.diff.Numbering.{AreLeft}
use Rattle.dump_commands.specs.diff.Sides.{Side, side_of}
use Rattle.dump_commands.proofs.Twinning.{none_left}
use Rattle.dump_commands.proofs.diff.twins.counted.Goals as goal

pub loop-side-init : goal.loop-side-init
loop-side-init c = none_left c.new-twins.result c.new-twins.ensures.empty

pub loop-side-preserved : goal.loop-side-preserved
loop-side-preserved c =
    let sides = c.args.sides.now in
    let i = c.loop-side.side-index in
    subst (λ (ss : List Side). AreLeft ss [] c.add_one.new.twins) (sym (map_more side_of sides i _ c.loop-side-test.true))
    (c.in_ok-add_one.ensures (map side_of (take i sides)) c.loop-side.invariant)
