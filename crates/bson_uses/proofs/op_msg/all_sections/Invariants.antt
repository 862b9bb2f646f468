use Rattle.std.proofs.Common.{length}
use Rattle.bson_uses.specs.Messages.{BeginWith}
use Rattle.bson_uses.proofs.op_msg.all_sections.Given as goal

abbrev pub invariant-loop-kind : goal.invariant-loop-kind
invariant-loop-kind l = BeginWith l.all.items l.initial.rest l.rest

abbrev pub decreases-loop-kind : goal.decreases-loop-kind
decreases-loop-kind l = length l.rest
