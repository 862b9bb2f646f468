use Rattle.std.proofs.Common.{◌∙◌, ap, inr, refl}
use Rattle.std.proofs.lemmas.Result.{err_from_is_err_and}
use Rattle.dump_io.specs.input.Between.{turn_after_document}
use Rattle.dump_runs.specs.declared.texts.piece.Went.TheVariants as went
use Rattle.dump_runs.proofs.texts.Parts.{passes_ahead, refused_ahead}
use Rattle.dump_runs.proofs.texts.piece.pass_refused.Goals as goal

pub returns : goal.returns
returns g c next =
    let f = c.args.fault in
    let t = c.args.input in
    let told = c.in_ok-tell_fault.ensures in
    passes_ahead f.len c.requires.1 told.passed
    (refused_ahead t.job t.name.now next c.args.cursor.now f c.requires.3 c.requires.1 c.requires.2 c.requires.4 (c.behind_document-cursor.ensures ∙ ap turn_after_document told.passed.4))
    refl told.told

pub returns-in_err-tell_fault : goal.returns-in_err-tell_fault
returns-in_err-tell_fault g c next =
    let f = c.args.fault in
    let t = c.args.input in
    let y = c.args.cursor.now in
    let told = c.in_err-tell_fault.ensures in
    let e = err_from_is_err_and c.from_residual.result c.from_residual.ensures.1 in
    rw (e.1, e.2) (
      inr (
        went.Refused,
        turn_after_document y.turn,
        refused_ahead t.job t.name.now next y f c.requires.3 c.requires.1 c.requires.2 c.requires.4 refl,
        told.front,
      ),
      told.failed,
    )
