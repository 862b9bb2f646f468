use Rattle.std.proofs.Common.{◌∙◌, ap, length-take-le, refl, subst, sym, take}
use Rattle.std.specs.Io.KnownBytes.{Appends}
use Rattle.dump_commands.specs.Counting.{count_alone}
use Rattle.dump_io.specs.input.Reading.{ahead_of}
use Rattle.dump_io.specs.lines.Fronts.{AppendsFront}
use Rattle.dump_io.proofs.Face.{on_any}
use Rattle.dump_runs.specs.Plays.{Played, Written, held}
use Rattle.dump_runs.specs.dumps.Run.{events_of_lone}
use Rattle.dump_runs.specs.dumps.Steps.{HaltsAside}
use Rattle.dump_runs.proofs.dumps.Apart.{lone_front, lone_played, lone_whole}
use Rattle.dump_runs.proofs.Plays.{written}
use Rattle.dump_runs.proofs.dumps.alone.set_aside.Goals as goal

pub returns-clause-passed : goal.returns-clause-passed
returns-clause-passed g c =
    let t = c.args.tally.now in
    let ahead = ahead_of c.args.source.now.window in
    let b = take c.args.len ahead in
    let a = g.A.Write.contents c.writers.inside.alone.inner in
    let a' = g.A.Write.contents c.put.new.writer.inner in
    let put = subst (Appends a a') c.front.ensures c.in_ok-put.ensures.written in
    let counted = rw c.in_ok-counted.ensures.same at c.with_alone.ensures.counted in
    let counts = counted ∙ ap (count_alone t.counts) (sym (length-take-le c.args.len ahead c.requires.1)) in
    let new = held (written (g.D.Write.contents c.writers.inside.out.inner) a' (g.W.Write.contents c.writers.inside.report.inner)) (record t { counts = c.in_ok-counted.counted }) in
    record {
      passed = c.in_ok-pass.ensures.passed;
      played = subst (λ (v : Written). Played (events_of_lone b) (held v t) new) c.writers.view_is (lone_played b put counts);
      kept = refl;
    }

pub returns-in_err-put-clause-halts : goal.returns-in_err-put-clause-halts
returns-in_err-put-clause-halts g c =
    let t = c.args.tally.now in
    let b = take c.args.len (ahead_of c.args.source.now.window) in
    let a = g.A.Write.contents c.writers.inside.alone.inner in
    let a' = g.A.Write.contents c.put.new.writer.inner in
    let new = held (written (g.D.Write.contents c.writers.inside.out.inner) a' (g.W.Write.contents c.writers.inside.report.inner)) t in
    on_any _ _ (subst (λ (v : Written). HaltsAside b (held v t) new) c.writers.view_is (lone_front b (subst (AppendsFront a a') c.front.ensures c.in_err-put.ensures.front)))

pub returns-in_err-counted-clause-halts : goal.returns-in_err-counted-clause-halts
returns-in_err-counted-clause-halts g c =
    let t = c.args.tally.now in
    let b = take c.args.len (ahead_of c.args.source.now.window) in
    let a = g.A.Write.contents c.writers.inside.alone.inner in
    let a' = g.A.Write.contents c.put.new.writer.inner in
    let new = held (written (g.D.Write.contents c.writers.inside.out.inner) a' (g.W.Write.contents c.writers.inside.report.inner)) t in
    on_any _ _ (subst (λ (v : Written). HaltsAside b (held v t) new) c.writers.view_is (lone_whole b (subst (Appends a a') c.front.ensures c.in_ok-put.ensures.written)))

pub returns-in_err-pass-clause-halts : goal.returns-in_err-pass-clause-halts
returns-in_err-pass-clause-halts g c =
    let t = c.args.tally.now in
    let b = take c.args.len (ahead_of c.args.source.now.window) in
    let a = g.A.Write.contents c.writers.inside.alone.inner in
    let a' = g.A.Write.contents c.put.new.writer.inner in
    let new = held (written (g.D.Write.contents c.writers.inside.out.inner) a' (g.W.Write.contents c.writers.inside.report.inner)) t in
    on_any _ _ (subst (λ (v : Written). HaltsAside b (held v t) new) c.writers.view_is (lone_whole b (subst (Appends a a') c.front.ensures c.in_ok-put.ensures.written)))
