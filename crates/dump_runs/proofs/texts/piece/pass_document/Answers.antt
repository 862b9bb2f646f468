use Rattle.std.proofs.Common.{rules, ◌≡◌, ◌∙◌, ap, inr, ℕ, List, length, refl, subst, sym, take}
use Rattle.std.proofs.lemmas.Result.{err_from_is_err_and}
use Rattle.dump_commands.specs.Counting.{count_said}
use Rattle.dump_io.specs.input.Between.{turn_after_document}
use Rattle.dump_io.specs.input.Reading.{ahead_of}
use Rattle.dump_runs.specs.Plays.{Written, held}
use Rattle.dump_runs.specs.texts.Run.{Gives}
use Rattle.dump_runs.specs.texts.Steps.{HaltsText, PassesText}
use Rattle.dump_runs.specs.declared.texts.piece.Went.TheVariants as went
use Rattle.dump_runs.proofs.texts.Parts.{document_ahead, halts_none, passes_ahead, said_front, said_played}
use Rattle.dump_runs.proofs.Plays.{written}
use Rattle.dump_runs.proofs.texts.piece.pass_document.Goals as goal

pub returns : goal.returns
returns g c job name told gives =
    let bytes = c.as_bytes-bytes.result.now in
    let y = c.args.cursor.now in
    let t = c.args.tally.now in
    let is = subst (λ (b : List ℕ). Gives job.limits (take c.args.len (ahead_of y.window)) b) (sym c.as_bytes-bytes.ensures.bytes) gives in
    let counted : c.in_ok-counted.counted ≡ count_said t.counts (length bytes) = search rules in
    let new =
    held (written (g.D.Write.contents c.put.new.writer.inner) (g.A.Write.contents c.writers.inside.alone.inner) (g.W.Write.contents c.writers.inside.report.inner))
    (record t { counts = c.in_ok-counted.counted }) in
    subst (λ (v : Written). PassesText job name told y (record c.pass.new.self { turn = c.behind_document-cursor.result }) (held v t) new went.Document) c.writers.view_is
    (passes_ahead c.args.len c.requires.1 c.in_ok-pass.ensures.passed
    (document_ahead job name told y c.args.len bytes c.requires.2 is (c.behind_document-cursor.ensures ∙ ap turn_after_document c.in_ok-pass.ensures.passed.4)) refl
    (said_played bytes c.in_ok-put.ensures.written counted))

pub returns-in_err-counted : goal.returns-in_err-counted
returns-in_err-counted g c job name told gives =
    let e = err_from_is_err_and c.from_residual.result c.from_residual.ensures.1 in
    rw (e.1, e.2) (halts_none job name told c.args.cursor.now (held c.args.writers.now c.args.tally.now), c.in_err-counted.ensures.failed)

pub returns-in_err-pass : goal.returns-in_err-pass
returns-in_err-pass g c job name told gives =
    let e = err_from_is_err_and c.from_residual-in_err-pass.result c.from_residual-in_err-pass.ensures.1 in
    rw (e.1, e.2) (halts_none job name told c.args.cursor.now (held c.args.writers.now c.args.tally.now), c.in_err-pass.ensures.failed)

pub returns-in_err-put : goal.returns-in_err-put
returns-in_err-put g c job name told gives =
    let bytes = c.as_bytes-bytes.result.now in
    let y = c.args.cursor.now in
    let t = c.args.tally.now in
    let is = subst (λ (b : List ℕ). Gives job.limits (take c.args.len (ahead_of y.window)) b) (sym c.as_bytes-bytes.ensures.bytes) gives in
    let new = held (written (g.D.Write.contents c.put.new.writer.inner) (g.A.Write.contents c.writers.inside.alone.inner) (g.W.Write.contents c.writers.inside.report.inner)) t in
    let e = err_from_is_err_and c.from_residual-in_err-put.result c.from_residual-in_err-put.ensures.1 in
    rw (e.1, e.2) (
      subst (λ (v : Written). HaltsText job name told y (held v t) new) c.writers.view_is
          (inr (went.Document, turn_after_document y.turn, document_ahead job name told y c.args.len bytes c.requires.2 is refl, said_front bytes c.in_err-put.ensures.front)),
      c.in_err-put.ensures.failed,
    )
