use Rattle.std.proofs.Common.{◌∙◌, ap, inr, refl}
use Rattle.std.proofs.lemmas.Result.{err_from_is_err_and}
use Rattle.dump_io.specs.input.Between.{turn_after_gap}
use Rattle.dump_runs.specs.declared.texts.piece.Went.TheVariants as went
use Rattle.dump_runs.proofs.texts.Parts.{astray_ahead, passes_ahead}
use Rattle.dump_runs.proofs.texts.piece.pass_astray.Goals as goal

pub returns : goal.returns
returns g c next why =
    let f = c.args.fault in
    let t = c.args.input in
    let told = c.in_ok-tell_fault.ensures in
    passes_ahead f.len c.requires.1 told.passed
    (astray_ahead t.job t.name.now next c.args.cursor.now f c.requires.3 c.requires.1 c.requires.2 why (c.behind_gap-cursor.ensures ∙ ap turn_after_gap told.passed.4)) refl told.told

pub returns-in_err-tell_fault : goal.returns-in_err-tell_fault
returns-in_err-tell_fault g c next why =
    let f = c.args.fault in
    let t = c.args.input in
    let y = c.args.cursor.now in
    let told = c.in_err-tell_fault.ensures in
    let e = err_from_is_err_and c.from_residual.result c.from_residual.ensures.1 in
    rw (e.1, e.2) (
      inr (went.Astray, turn_after_gap y.turn, astray_ahead t.job t.name.now next y f c.requires.3 c.requires.1 c.requires.2 why refl, told.front),
      told.failed,
    )
