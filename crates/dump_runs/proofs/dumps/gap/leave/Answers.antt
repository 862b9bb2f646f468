use Rattle.std.proofs.Common.{refl, subst}
use Rattle.dump_io.proofs.Face.{front_whole, on_any}
use Rattle.dump_runs.specs.Plays.{Written, held}
use Rattle.dump_runs.specs.dumps.Steps.{HaltsLeaving}
use Rattle.dump_runs.proofs.dumps.Lines.{line_front, line_none, rest_line}
use Rattle.dump_runs.proofs.Plays.{written}
use Rattle.dump_runs.proofs.dumps.gap.leave.Goals as goal

pub returns-in_err-rest-clause-halts : goal.returns-in_err-rest-clause-halts
returns-in_err-rest-clause-halts g c = on_any _ _ (line_none _ refl)

pub returns-in_err-put_ending-clause-halts : goal.returns-in_err-put_ending-clause-halts
returns-in_err-put_ending-clause-halts g c =
    let job = c.args.job in
    let t = c.args.tally.now in
    let left = c.in_ok-rest.ensures.left job.limits.bytes c.requires.1 in
    let o = g.D.Write.contents c.writers.inside.out.inner in
    let l = g.A.Write.contents c.writers.inside.alone.inner in
    let w = g.W.Write.contents c.writers.inside.report.inner in
    let w' = g.W.Write.contents c.put_ending.new.report.inner in
    on_any _ _ (subst (λ (v : Written). HaltsLeaving job c.args.ending c.args.source.now (held v t) (held (written o l w') t)) c.writers.view_is
    (line_front _ o l w w' t.counts t.kept _ (rest_line {left = c.drain.new.self.left} left c.style_at-style.ensures c.at-at.ensures) c.in_err-put_ending.ensures.front))

pub returns-in_err-end-clause-halts : goal.returns-in_err-end-clause-halts
returns-in_err-end-clause-halts g c =
    let job = c.args.job in
    let t = c.args.tally.now in
    let left = c.in_ok-rest.ensures.left job.limits.bytes c.requires.1 in
    let o = g.D.Write.contents c.writers.inside.out.inner in
    let l = g.A.Write.contents c.writers.inside.alone.inner in
    let w = g.W.Write.contents c.writers.inside.report.inner in
    let w' = g.W.Write.contents c.put_ending.new.report.inner in
    on_any _ _ (subst (λ (v : Written). HaltsLeaving job c.args.ending c.args.source.now (held v t) (held (written o l w') t)) c.writers.view_is
    (line_front _ o l w w' t.counts t.kept _ (rest_line {left = c.drain.new.self.left} left c.style_at-style.ensures c.at-at.ensures) (front_whole w w' _ c.in_ok-put_ending.ensures.written)))

pub returns-in_err-tally-clause-halts : goal.returns-in_err-tally-clause-halts
returns-in_err-tally-clause-halts g c =
    let job = c.args.job in
    let t = c.args.tally.now in
    let left = c.in_ok-rest.ensures.left job.limits.bytes c.requires.1 in
    let o = g.D.Write.contents c.writers.inside.out.inner in
    let l = g.A.Write.contents c.writers.inside.alone.inner in
    let w = g.W.Write.contents c.writers.inside.report.inner in
    let w' = g.W.Write.contents c.put_ending.new.report.inner in
    on_any _ _ (subst (λ (v : Written). HaltsLeaving job c.args.ending c.args.source.now (held v t) (held (written o l w') t)) c.writers.view_is
    (line_front _ o l w w' t.counts t.kept _ (rest_line {left = c.drain.new.self.left} left c.style_at-style.ensures c.at-at.ensures) (front_whole w w' _ c.in_ok-put_ending.ensures.written)))
