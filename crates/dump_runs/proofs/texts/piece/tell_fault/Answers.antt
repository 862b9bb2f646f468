use Rattle.std.proofs.Common.{rules, ◌≡◌, ◌∙◌, ℕ, List, [], ap, inl, refl, subst, take}
use Rattle.std.specs.Io.KnownBytes.{Appends}
use Rattle.dump_commands.specs.Counting.{count_fault}
use Rattle.dump_io.specs.input.Reading.{ahead_of}
use Rattle.dump_io.specs.input.Places.{position_over}
use Rattle.dump_io.specs.lines.Fronts.{AppendsFront}
use Rattle.dump_io.specs.declared.lines.style.Style.{Style}
use Rattle.dump_io.proofs.Face.{on_any}
use Rattle.dump_runs.specs.Plays.{Played, Written, held}
use Rattle.dump_runs.specs.texts.Faults.{fault_line}
use Rattle.dump_runs.specs.texts.Run.{events_of, refused}
use Rattle.dump_runs.specs.texts.Steps.{HaltsSaid, line_of}
use Rattle.dump_runs.specs.declared.texts.cursor.Cursor.{Cursor}
use Rattle.dump_runs.specs.declared.texts.piece.Fault.{Fault}
use Rattle.dump_runs.proofs.Plays.{played_none, written}
use Rattle.dump_runs.proofs.texts.Parts.{refused_front, refused_played}
use Rattle.dump_runs.proofs.texts.piece.tell_fault.Goals as goal

-- the line of a fault, printed so
abbrev shown : List ℕ → Cursor → Fault → Style → List ℕ
shown name y f style = fault_line style name (position_over y.place (take f.at (ahead_of y.window))) f.reason

pub returns-clause-told : goal.returns-clause-told
returns-clause-told g c =
    let t = c.args.tally.now in
    let i = c.args.input in
    let w = g.W.Write.contents c.writers.inside.report.inner in
    let w' = g.W.Write.contents c.put.new.writer.inner in
    let line = line_of i.job i.name.now c.args.cursor.now t.counts c.args.fault in
    let counted : c.in_ok-counted.counted ≡ count_fault t.counts = search rules in
    let same = c.deref.ensures.value ∙ c.in_ok-line.ensures.line ∙ ap (shown i.name.now c.args.cursor.now c.args.fault) c.style_at-style.ensures in
    let put = subst (Appends w w') same c.in_ok-put.ensures.written in
    let new = held (written (g.D.Write.contents c.writers.inside.out.inner) (g.A.Write.contents c.writers.inside.alone.inner) w') (record t { counts = c.in_ok-counted.counted }) in
    subst (λ (v : Written). Played (events_of (refused line)) (held v t) new) c.writers.view_is (refused_played line put counted)

pub returns-in_err-line-clause-front : goal.returns-in_err-line-clause-front
returns-in_err-line-clause-front g c =
    let h = held c.args.writers.now c.args.tally.now in
    on_any _ (HaltsSaid (refused (line_of c.args.input.job c.args.input.name.now c.args.cursor.now h.counts c.args.fault)) h h) ([], played_none refl, inl refl)

pub returns-in_err-counted-clause-front : goal.returns-in_err-counted-clause-front
returns-in_err-counted-clause-front g c =
    let h = held c.args.writers.now c.args.tally.now in
    on_any _ (HaltsSaid (refused (line_of c.args.input.job c.args.input.name.now c.args.cursor.now h.counts c.args.fault)) h h) ([], played_none refl, inl refl)

pub returns-in_err-pass-clause-front : goal.returns-in_err-pass-clause-front
returns-in_err-pass-clause-front g c =
    let h = held c.args.writers.now c.args.tally.now in
    on_any _ (HaltsSaid (refused (line_of c.args.input.job c.args.input.name.now c.args.cursor.now h.counts c.args.fault)) h h) ([], played_none refl, inl refl)

pub returns-in_err-put-clause-front : goal.returns-in_err-put-clause-front
returns-in_err-put-clause-front g c =
    let t = c.args.tally.now in
    let i = c.args.input in
    let w = g.W.Write.contents c.writers.inside.report.inner in
    let w' = g.W.Write.contents c.put.new.writer.inner in
    let line = line_of i.job i.name.now c.args.cursor.now t.counts c.args.fault in
    let same = c.deref.ensures.value ∙ c.in_ok-line.ensures.line ∙ ap (shown i.name.now c.args.cursor.now c.args.fault) c.style_at-style.ensures in
    let put = subst (AppendsFront w w') same c.in_err-put.ensures.front in
    let new = held (written (g.D.Write.contents c.writers.inside.out.inner) (g.A.Write.contents c.writers.inside.alone.inner) w') t in
    on_any _ _ (subst (λ (v : Written). HaltsSaid (refused line) (held v t) new) c.writers.view_is (refused_front line put))
