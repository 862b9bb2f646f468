use Rattle.std.proofs.Common.{inr}
use Rattle.std.proofs.lemmas.Result.{err_from_is_err_and}
use Rattle.raw_bson.specs.Envelope.{IsEnvelope}
use Rattle.raw_bson.specs.WithinLimits.{TellsFirstBarrier}
use Rattle.bson_uses.specs.Outside.{most}
use Rattle.bson_uses.proofs.outside.received.Goals as goal

pub returns-in_err-tree-clause-turned_away : goal.returns-in_err-tree-clause-turned_away
returns-in_err-tree-clause-turned_away c =
    let p = err_from_is_err_and c.from_residual-in_err-tree.result c.from_residual-in_err-tree.ensures.1 in
    let env : IsEnvelope c.args.bytes.now = rw (← c.in_ok-document.ensures.same) c.in_ok-document.document.envelope in
    let told : TellsFirstBarrier most c.args.bytes.now c.in_err-tree.field-0.0 = rw (← c.in_ok-document.ensures.same) c.in_err-tree.ensures.fault in
    rw (p.1, p.2) (inr (env, told))
