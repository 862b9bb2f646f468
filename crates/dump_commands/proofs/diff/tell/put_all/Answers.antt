use Rattle.std.proofs.Common.{ℕ, List, map, subst, sym, take}
use Rattle.std.specs.Io.KnownBytes.{Appends}
use Rattle.dump_io.specs.lines.Fronts.{AppendsFront}
use Rattle.dump_io.proofs.Face.{on_any, on_err, on_ok}
use Rattle.dump_commands.specs.diff.Lines.{differences_line}
use Rattle.dump_commands.specs.diff.Pairs.{told_by}
use Rattle.dump_commands.proofs.Telling.{all_written, front_all, front_last, halts_here, halts_inside, last_written, next_written, none_written}
use Rattle.dump_commands.proofs.diff.tell.put_all.Goals as goal

pub loop-one-init : goal.loop-one-init
loop-one-init g c = none_written c.args.telling (g.I.Inputs.bytes_of c.args.inputs.now) (g.W.Write.contents c.args.report.now)

pub loop-one-preserved : goal.loop-one-preserved
loop-one-preserved g c =
    next_written c.args.telling (g.I.Inputs.bytes_of c.args.inputs.now) c.args.told.now c.loop-one.one-index _ c.loop-one-test.true
    (g.W.Write.contents c.args.report.now) (g.W.Write.contents c.loop-one.report) (g.W.Write.contents c.put.new.writer) c.loop-one.invariant (
      c.in_ok-line.line.items,
      c.in_ok-line.ensures.line,
      subst (Appends (g.W.Write.contents c.loop-one.report) (g.W.Write.contents c.put.new.writer)) c.deref.ensures.value c.in_ok-put.ensures.written,
    )

pub returns-in_err-line-clause-front : goal.returns-in_err-line-clause-front
returns-in_err-line-clause-front g c =
    on_any _ _ (halts_here c.args.telling (g.I.Inputs.bytes_of c.args.inputs.now) c.args.told.now c.loop-one.one-index c.loop-one-test.true
    (differences_line c.args.telling.style c.args.differences) (g.W.Write.contents c.args.report.now) (g.W.Write.contents c.loop-one.report) c.loop-one.invariant)

pub returns-in_err-put-clause-front : goal.returns-in_err-put-clause-front
returns-in_err-put-clause-front g c =
    on_any _ _ (halts_inside c.args.telling (g.I.Inputs.bytes_of c.args.inputs.now) c.args.told.now c.loop-one.one-index _ c.loop-one-test.true
    (differences_line c.args.telling.style c.args.differences) (g.W.Write.contents c.args.report.now) (g.W.Write.contents c.loop-one.report)
    (g.W.Write.contents c.put.new.writer) c.loop-one.invariant (
      c.in_ok-line.line.items,
      c.in_ok-line.ensures.line,
      subst (AppendsFront (g.W.Write.contents c.loop-one.report) (g.W.Write.contents c.put.new.writer)) c.deref.ensures.value c.in_err-put.ensures.front,
    ))

pub returns-in_err-last-clause-front : goal.returns-in_err-last-clause-front
returns-in_err-last-clause-front g c =
    let t = c.args.telling in
    let bytes_of = g.I.Inputs.bytes_of c.args.inputs.now in
    let w = g.W.Write.contents c.args.report.now in
    let w' = g.W.Write.contents c.loop-one.report in
    on_any _ _ (front_all t bytes_of (differences_line t.style c.args.differences) (map told_by c.args.told.now) w w'
    (all_written t bytes_of c.args.told.now c.loop-one.one-index w w' c.loop-one-test.false c.loop-one.invariant))

pub returns-clause-front : goal.returns-clause-front
returns-clause-front g c =
    let t = c.args.telling in
    let bytes_of = g.I.Inputs.bytes_of c.args.inputs.now in
    let w = g.W.Write.contents c.args.report.now in
    let w' = g.W.Write.contents c.loop-one.report in
    let w'' = g.W.Write.contents c.put-2.new.writer in
    let last = differences_line t.style c.args.differences in
    let are = all_written t bytes_of c.args.told.now c.loop-one.one-index w w' c.loop-one-test.false c.loop-one.invariant in
    on_err c.put-2.result _ _ (λ front. front_last t bytes_of last (map told_by c.args.told.now) w w' w'' are
    (subst (AppendsFront w' w'') c.in_ok-last.ensures (subst (AppendsFront w' w'') c.deref-2.ensures.value front))) c.put-2.ensures.front

pub returns-clause-written : goal.returns-clause-written
returns-clause-written g c =
    let t = c.args.telling in
    let bytes_of = g.I.Inputs.bytes_of c.args.inputs.now in
    let w = g.W.Write.contents c.args.report.now in
    let w' = g.W.Write.contents c.loop-one.report in
    let w'' = g.W.Write.contents c.put-2.new.writer in
    let last = differences_line t.style c.args.differences in
    let are = all_written t bytes_of c.args.told.now c.loop-one.one-index w w' c.loop-one-test.false c.loop-one.invariant in
    on_ok c.put-2.result _ _ (λ put. last_written t bytes_of (map told_by c.args.told.now) last w w' w'' are
    (subst (Appends w' w'') c.in_ok-last.ensures (subst (Appends w' w'') c.deref-2.ensures.value put))) c.put-2.ensures.written
