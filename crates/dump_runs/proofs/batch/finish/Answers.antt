use Rattle.std.proofs.Common.{subst}
use Rattle.std.proofs.KnownBytes.{Keeps-refl}
use Rattle.std.specs.Io.KnownBytes.{Keeps}
use Rattle.dump_io.proofs.Face.{in_ok, on_any}
use Rattle.dump_runs.specs.Plays.{Written}
use Rattle.dump_runs.specs.Summed.{sum_of}
use Rattle.dump_runs.specs.Sums.{WritesAll, WritesAllFront}
use Rattle.dump_runs.proofs.Telling.{writes_kept, writes_none, writes_whole}
use Rattle.dump_runs.proofs.batch.finish.Goals as goal

pub returns-in_default-clause-front : goal.returns-in_default-clause-front
returns-in_default-clause-front g c =
    let w = c.args.writers.now in
    (Keeps-refl w.out, Keeps-refl w.alone, writes_none (g.I.Inputs.bytes_of c.args.inputs.now) (sum_of c.args.totals.now) c.args.reading w.report)

pub returns-clause-front : goal.returns-clause-front
returns-clause-front g c =
    let r = c.args.reading in
    let bytes_of = g.I.Inputs.bytes_of c.args.inputs.now in
    let sum = sum_of c.args.totals.now in
    let o = g.D.Write.contents c.flush.new.writer.inner in
    let a = g.A.Write.contents c.flush-2.new.writer.inner in
    let w = g.W.Write.contents c.writers.inside.report.inner in
    let w' = g.W.Write.contents c.put_all_counts.new.report.inner in
    let w'' = g.W.Write.contents c.flush-3.new.writer.inner in
    on_any c.flush-3.result _ (subst (λ (v : Written). Keeps v.out o × Keeps v.alone a × WritesAllFront r bytes_of sum v.report w'') c.writers.view_is
    (c.flush.ensures.kept, c.flush-2.ensures.kept, writes_whole bytes_of sum r w w'' (writes_kept bytes_of sum r w w' w'' c.in_ok-put_all_counts.ensures.written c.flush-3.ensures.kept)))

pub returns-in_err-flush-clause-front : goal.returns-in_err-flush-clause-front
returns-in_err-flush-clause-front g c =
    let bytes_of = g.I.Inputs.bytes_of c.args.inputs.now in
    let o = g.D.Write.contents c.flush.new.writer.inner in
    let a = g.A.Write.contents c.writers.inside.alone.inner in
    let w = g.W.Write.contents c.writers.inside.report.inner in
    on_any _ _ (subst (λ (v : Written). Keeps v.out o × Keeps v.alone a × WritesAllFront c.args.reading bytes_of (sum_of c.args.totals.now) v.report w) c.writers.view_is
    (c.flush.ensures.kept, Keeps-refl a, writes_none bytes_of (sum_of c.args.totals.now) c.args.reading w))

pub returns-in_err-flush-2-clause-front : goal.returns-in_err-flush-2-clause-front
returns-in_err-flush-2-clause-front g c =
    let bytes_of = g.I.Inputs.bytes_of c.args.inputs.now in
    let o = g.D.Write.contents c.flush.new.writer.inner in
    let a = g.A.Write.contents c.flush-2.new.writer.inner in
    let w = g.W.Write.contents c.writers.inside.report.inner in
    on_any _ _ (subst (λ (v : Written). Keeps v.out o × Keeps v.alone a × WritesAllFront c.args.reading bytes_of (sum_of c.args.totals.now) v.report w) c.writers.view_is
    (c.flush.ensures.kept, c.flush-2.ensures.kept, writes_none bytes_of (sum_of c.args.totals.now) c.args.reading w))

pub returns-clause-written : goal.returns-clause-written
returns-clause-written g c =
    let r = c.args.reading in
    let bytes_of = g.I.Inputs.bytes_of c.args.inputs.now in
    let sum = sum_of c.args.totals.now in
    let o = g.D.Write.contents c.flush.new.writer.inner in
    let a = g.A.Write.contents c.flush-2.new.writer.inner in
    let w = g.W.Write.contents c.writers.inside.report.inner in
    let w' = g.W.Write.contents c.put_all_counts.new.report.inner in
    let w'' = g.W.Write.contents c.flush-3.new.writer.inner in
    in_ok c.flush-3.result _ (subst (λ (v : Written). Keeps v.out o × Keeps v.alone a × WritesAll r bytes_of sum v.report w'') c.writers.view_is
    (c.flush.ensures.kept, c.flush-2.ensures.kept, writes_kept bytes_of sum r w w' w'' c.in_ok-put_all_counts.ensures.written c.flush-3.ensures.kept))
