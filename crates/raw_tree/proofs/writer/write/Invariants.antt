use Rattle.std.proofs.Common.{◌≤◌, ◌∷◌, vec_capacity}
use Rattle.raw_tree.specs.writer.Members.{begun_of, tree_of_container}
use Rattle.raw_tree.proofs.writer.MemberSteps.{stack}
use Rattle.raw_tree.proofs.writer.WrittenMembers.{IsWriting, left_in}
use Rattle.raw_tree.proofs.writer.write.Given as goal

-- the bytes are what was written of the container so far
abbrev pub invariant-payloads : goal.invariant-payloads
invariant-payloads l = record {
  writing : IsWriting (tree_of_container l.container) (begun_of l.payload ∷ stack begun_of l.waiting.items) l.out.items;
  capacity : vec_capacity l.fn.out ≤ vec_capacity l.out;
}

-- what remains, and the payloads
abbrev pub decreases-payloads : goal.decreases-payloads
decreases-payloads l = left_in (begun_of l.payload ∷ stack begun_of l.waiting.items)
