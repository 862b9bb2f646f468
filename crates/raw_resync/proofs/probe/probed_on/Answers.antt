use Rattle.std.proofs.Common.{subst}
use Rattle.raw_tree.specs.Barriers.{TellsBarrier}
use Rattle.raw_view.specs.Document.{bytes_of}
use Rattle.raw_resync.proofs.Charging.{costs_fault, offset_within}
use Rattle.raw_resync.proofs.probe.probed_on.Goals as goal

pub looked_at-requires : goal.looked_at-requires
looked_at-requires c =
    let told = subst (TellsBarrier c.args.limits (bytes_of c.args.document)) c.in-Ok-Some.field-0-is c.in-Ok-Some.ensures.barrier in
    offset_within c.args.limits (bytes_of c.args.document) c.in-Ok-Some.barrier told

pub returns-in-Ok-Some-clause-probed : goal.returns-in-Ok-Some-clause-probed
returns-in-Ok-Some-clause-probed c =
    let told = subst (TellsBarrier c.args.limits (bytes_of c.args.document)) c.in-Ok-Some.field-0-is c.in-Ok-Some.ensures.barrier in
    costs_fault c.args.limits (bytes_of c.args.document) c.in-Ok-Some.barrier c.looked_at.result c.args.document.envelope told c.in-Ok-Some.ensures.one_answer
    c.looked_at.ensures.looks
