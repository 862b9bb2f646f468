use Rattle.std.proofs.Common.{[], get_or, subst, sym, take}
use Rattle.std.proofs.lemmas.List.{take_more}
use Rattle.dump_commands.specs.declared.elements.changes.leaves.Leaf.{Leaf}
use Rattle.dump_commands.specs.elements.Numbered.{IsSetOf}
use Rattle.dump_commands.proofs.elements.Lacking.{set_more}
use Rattle.dump_commands.proofs.elements.changes.missing.set_of.Goals as goal

pub loop-leaf-preserved : goal.loop-leaf-preserved
loop-leaf-preserved c =
    let leaves = c.args.leaves.now in
    let i = c.loop-leaf.leaf-index in
    let d : Leaf = record { path = 0; tag = 0; bytes = record { ref_ptr = (0, 0); now = [] } } in
    let more = set_more c.loop-leaf.set c.insert.new.self (take i leaves) (get_or leaves i d) c.loop-leaf.invariant c.in_ok-insert.ensures.updates in
    subst (IsSetOf c.insert.new.self) (sym (take_more leaves i d c.loop-leaf-test.true)) more
