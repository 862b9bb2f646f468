use Rattle.std.proofs.Common.{◌≡◌, drop, fold}
use Rattle.dump_commands.specs.elements.Numbered.{AreKnown, lacking_in, with_number}
use Rattle.dump_commands.proofs.elements.changes.missing.add_missing.Given as goal

-- of the leaves that are left come the paths that are to be put after those so far
abbrev pub invariant-loop-leaf : goal.invariant-loop-leaf
invariant-loop-leaf l = record {
  left : fold with_number l.paths.items (lacking_in l.others (drop l.leaf-index l.leaves)) ≡ fold with_number l.initial.paths.items (lacking_in l.others l.leaves);
  known : AreKnown l.known l.paths.items;
}
