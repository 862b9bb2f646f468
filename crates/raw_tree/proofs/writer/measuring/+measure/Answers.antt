use Rattle.std.proofs.Common.{arith, length-append}
use Rattle.raw_tree.proofs.writer.MeasuredMembers.{measuring_begins, measuring_member, measuring_inside, measuring_ends, leaf_measured}
use Rattle.raw_tree.proofs.writer.MemberSteps.{container_holds, members_len, stack-last}
use Rattle.raw_tree.proofs.writer.measuring.+measure.Goals as goal
use Rattle.raw_tree.proofs.writer.measuring.+measure.Goals.{in-Leaf+in_ok-len-in-Leaf, in-Container+then-is_ok, in-Container+else-is_ok+in_ok-len-in-Container}

pub members-init : goal.members-init
members-init t c = grind (arith, container_holds, measuring_begins)

pub members-smaller-in_default : goal.members-smaller-in_default
members-smaller-in_default t c = grind (arith, stack-last, length-append)

pub members-preserved-in_default : goal.members-preserved-in_default
members-preserved-in_default t c = grind (arith, measuring_ends, stack-last)

pub members-smaller : goal.members-smaller
members-smaller t c = grind (arith, stack-last, members_len, container_holds, length-append)

pub members-preserved : goal.members-preserved
members-preserved t c =
    let is = rw c.in-Some.ensures.step at c.members.invariant in
    elim c.match-show.branch [
      | in-Leaf+in_ok-len-in-Leaf w ↦ grind (arith, is, leaf_measured, measuring_member)
      | in-Container+then-is_ok w ↦ grind (arith, is, container_holds, stack-last, measuring_inside)
      | in-Container+else-is_ok+in_ok-len-in-Container w ↦ grind (arith, is, measuring_member)
    ]
