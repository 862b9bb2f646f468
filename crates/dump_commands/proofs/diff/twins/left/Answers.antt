use Rattle.std.proofs.Common.{◌∙◌, List, [], ap, map, subst, sym, take}
use Rattle.std.proofs.lemmas.List.{map_more}
use Rattle.dump_commands.specs.diff.Numbering.{AreLeft, sides_at}
use Rattle.dump_commands.specs.diff.Pairs.{left_after}
use Rattle.dump_commands.specs.diff.Sides.{Side, side_of}
use Rattle.dump_commands.proofs.Twinning.{left_next, left_none}
use Rattle.dump_commands.proofs.diff.twins.left.Goals as goal

pub loop-side-init : goal.loop-side-init
loop-side-init c = (c.in_ok-twins.ensures, ap sides_at c.new-left.ensures.items ∙ left_none (map side_of c.args.others.now))

pub loop-side-preserved : goal.loop-side-preserved
loop-side-preserved c =
    let own = c.args.own.now in
    let others = map side_of c.args.others.now in
    let i = c.loop-side.side-index in
    let taken = map side_of (take i own) in
    let more = map_more side_of own i _ c.loop-side-test.true in
    let (are, left) = c.loop-side.invariant in (
      subst (λ (ss : List Side). AreLeft others ss c.take_one.new.twins) (sym more) (c.in_ok-same.ensures.taken others taken are),
      left_next c.loop-side.twins others taken (sides_at c.loop-side.left.items) (sides_at c.push_unless.new.left.items) _ c.in_ok-same.same are c.in_ok-same.ensures.same left
          c.in_ok-push_unless.ensures
          ∙ ap (left_after others []) (sym more),
    )
