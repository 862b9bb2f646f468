use Rattle.std.proofs.Common.{OnErr, OnOk, refl, subst, sym}
use Rattle.dump_io.proofs.Face.{on_any, on_err, on_ok}
use Rattle.dump_runs.specs.Summed.{sum_of}
use Rattle.dump_runs.specs.Sums.{WritesAll, WritesAllFront}
use Rattle.dump_runs.specs.declared.reading.Reading.{Reading}
use Rattle.dump_runs.proofs.Telling.{dumps_behind, dumps_first, writes_dumps}
use Rattle.dump_runs.proofs.sums.put_all_counts.Goals as goal

pub returns-in_err-put_compared-in-Dumps-clause-front : goal.returns-in_err-put_compared-in-Dumps-clause-front
returns-in_err-put_compared-in-Dumps-clause-front g c =
    let bytes_of = g.I.Inputs.bytes_of c.args.inputs.now in
    let sum = sum_of c.args.totals.now in
    let w = g.W.Write.contents c.args.report.now in
    let w' = g.W.Write.contents c.put_compared.new.report in
    on_any _ _ (subst (λ (r : Reading). WritesAllFront r bytes_of sum w w') (sym c.in-Dumps.is)
    (dumps_first bytes_of sum c.in-Dumps.job w w' c.in_err-put_compared-in-Dumps.ensures.front))

pub returns-in_ok-put_compared-in-Dumps-clause-written : goal.returns-in_ok-put_compared-in-Dumps-clause-written
returns-in_ok-put_compared-in-Dumps-clause-written g c =
    let bytes_of = g.I.Inputs.bytes_of c.args.inputs.now in
    let sum = sum_of c.args.totals.now in
    let w = g.W.Write.contents c.args.report.now in
    let w' = g.W.Write.contents c.put_compared.new.report in
    let w'' = g.W.Write.contents c.put_all.new.report in
    subst (λ (r : Reading). OnOk c.put_all.result (WritesAll r bytes_of sum w w'')) (sym c.in-Dumps.is)
    (on_ok c.put_all.result _ _ (writes_dumps bytes_of sum c.in-Dumps.job w w' w'' c.in_ok-put_compared-in-Dumps.ensures.written) c.put_all.ensures.written)

pub returns-in_ok-put_compared-in-Dumps-clause-front : goal.returns-in_ok-put_compared-in-Dumps-clause-front
returns-in_ok-put_compared-in-Dumps-clause-front g c =
    let bytes_of = g.I.Inputs.bytes_of c.args.inputs.now in
    let sum = sum_of c.args.totals.now in
    let w = g.W.Write.contents c.args.report.now in
    let w' = g.W.Write.contents c.put_compared.new.report in
    let w'' = g.W.Write.contents c.put_all.new.report in
    subst (λ (r : Reading). OnErr c.put_all.result (WritesAllFront r bytes_of sum w w'')) (sym c.in-Dumps.is)
    (on_err c.put_all.result _ _ (dumps_behind bytes_of sum c.in-Dumps.job w w' w'' c.in_ok-put_compared-in-Dumps.ensures.written) c.put_all.ensures.front)

pub returns-in-Texts-clause-written : goal.returns-in-Texts-clause-written
returns-in-Texts-clause-written g c =
    let bytes_of = g.I.Inputs.bytes_of c.args.inputs.now in
    let sum = sum_of c.args.totals.now in
    let w = g.W.Write.contents c.args.report.now in
    let w' = g.W.Write.contents c.put_text_summary.new.report in
    subst (λ (r : Reading). OnOk c.put_text_summary.result (WritesAll r bytes_of sum w w')) (sym c.in-Texts.is)
    (on_ok c.put_text_summary.result _ _ (λ put. (_, refl, put)) c.put_text_summary.ensures.written)

pub returns-in-Texts-clause-front : goal.returns-in-Texts-clause-front
returns-in-Texts-clause-front g c =
    let bytes_of = g.I.Inputs.bytes_of c.args.inputs.now in
    let sum = sum_of c.args.totals.now in
    let w = g.W.Write.contents c.args.report.now in
    let w' = g.W.Write.contents c.put_text_summary.new.report in
    subst (λ (r : Reading). OnErr c.put_text_summary.result (WritesAllFront r bytes_of sum w w')) (sym c.in-Texts.is)
    (on_err c.put_text_summary.result _ _ (λ front. (front.front, (front.behind, front.whole), front.put)) c.put_text_summary.ensures.front)
