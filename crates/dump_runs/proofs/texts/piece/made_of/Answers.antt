use Rattle.std.proofs.Common.{◌≤◌, ℕ, List, length, subst}
use Rattle.bson_from_json.specs.Texts.{IsCause}
use Rattle.dump_runs.proofs.texts.piece.made_of.Goals as goal

pub returns-in_default : goal.returns-in_default
returns-in_default c =
    let error = c.in-Err-from_json.error in
    let same = c.in-Ok.ensures.cases.0 in
    let within = subst (λ (l : List ℕ). error.offset ≤ length l) same c.in-Err-from_json.ensures.place.0 in
    let cause = subst (λ (l : List ℕ). IsCause c.args.limits l error.reason) same c.in-Err-from_json.ensures.cause in
    record { made = (within, (c.in-Ok.ensures.cases.1, c.in_default.not-OutOfMemory, cause)); failed = tt }
