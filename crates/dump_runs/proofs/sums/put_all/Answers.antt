use Rattle.std.proofs.KnownBytes.{Appends-trans}
use Rattle.dump_io.proofs.Face.{front_behind, front_first, on_any, on_err, on_ok}
use Rattle.dump_runs.proofs.sums.put_all.Goals as goal

pub returns-in_err-put_gathered-clause-front : goal.returns-in_err-put_gathered-clause-front
returns-in_err-put_gathered-clause-front g c =
    let w = g.W.Write.contents c.args.report.now in
    let w' = g.W.Write.contents c.put_gathered.new.report in
    on_any _ _ (front_first w w' _ _ c.in_err-put_gathered.ensures.front)

pub returns-clause-written : goal.returns-clause-written
returns-clause-written g c =
    let w = g.W.Write.contents c.args.report.now in
    let w' = g.W.Write.contents c.put_gathered.new.report in
    let w'' = g.W.Write.contents c.put_last.new.report in
    on_ok c.put_last.result _ _ (λ put. Appends-trans w w' w'' _ _ c.in_ok-put_gathered.ensures.written put) c.put_last.ensures.written

pub returns-clause-front : goal.returns-clause-front
returns-clause-front g c =
    let w = g.W.Write.contents c.args.report.now in
    let w' = g.W.Write.contents c.put_gathered.new.report in
    let w'' = g.W.Write.contents c.put_last.new.report in
    on_err c.put_last.result _ _ (λ front. front_behind w w' w'' _ _ c.in_ok-put_gathered.ensures.written front) c.put_last.ensures.front
