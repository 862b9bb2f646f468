use Rattle.bson_to_json.proofs.Common.{TellsBarrier, bytes_of}
use Rattle.std.proofs.Common.{subst}
use Rattle.bson_to_json.proofs.print.look_through.Goals as goal

pub returns-in-Ok-None-clause-seen : goal.returns-in-Ok-None-clause-seen
returns-in-Ok-None-clause-seen c _ =
    let b = bytes_of c.args.document in
    let (t, within) = subst (TellsBarrier c.args.limits b) c.in-Ok-None.field-0-is c.in-Ok-None.ensures.barrier in
    record { t = t; within = within; none = λ answer told. (c.first_fault_within.ensures.one_answer b c.args.document.envelope).not_both t told.0 within (_, _, told.2) }
