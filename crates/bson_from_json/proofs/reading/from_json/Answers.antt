use Rattle.std.proofs.Common.{◌∙◌, subst, sym}
use Rattle.bson_from_json.specs.Texts.{IsCause}
use Rattle.bson_from_json.proofs.Causes.{cause, uncapped, whole_stopped}
use Rattle.bson_from_json.proofs.Moments.{says_readable, written}
use Rattle.bson_from_json.proofs.reading.from_json.Goals.{in-Err-outcome, in-Ok-outcome+in-Err-finish}
use Rattle.bson_from_json.proofs.reading.from_json.Goals as goal

pub finish-requires : goal.finish-requires
finish-requires c = says_readable c.in-Ok-outcome.ensures.some

pub returns-in-Ok-finish-clause-written : goal.returns-in-Ok-finish-clause-written
returns-in-Ok-finish-clause-written c = written c.args.text.now c.in-Ok-outcome.ensures.some (c.new-2.ensures ∙ c.in-Ok.ensures.ok) c.in-Ok-finish.ensures.bytes

pub returns-clause-cause : goal.returns-clause-cause
returns-clause-cause c =
    let text = c.args.text.now in
    let tokens = c.new-2.ensures ∙ c.in-Ok.ensures.ok in
    let told : IsCause c.args.limits text c.match-outcome.reason = elim c.match-outcome.branch [
      | in-Err-outcome w ↦ subst (IsCause c.args.limits text) (sym w.reason-is) (cause c.args.limits text _ c.new-3.ensures.limits tokens w.in-Err-outcome.ensures.stops)
      | in-Ok-outcome+in-Err-finish w ↦ subst (IsCause c.args.limits text) (sym w.reason-is)
          (cause c.args.limits text _ (w.in-Ok-outcome.ensures.limits ∙ c.new-3.ensures.limits) tokens
          (whole_stopped _ w.in-Ok-outcome.ensures.some w.in-Ok-outcome.ensures.length w.in-Err-finish.ensures.stops))
    ] in
    subst (IsCause c.args.limits text) (sym c.error_at-2.ensures.reason) told

pub returns-in-Ok-finish-clause-sound : goal.returns-in-Ok-finish-clause-sound
returns-in-Ok-finish-clause-sound c = uncapped c.args.limits (c.in-Ok-outcome.ensures.limits ∙ c.new-3.ensures.limits) c.in-Ok-finish.ensures.sound
