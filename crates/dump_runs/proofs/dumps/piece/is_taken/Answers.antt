use Rattle.std.proofs.Common.{◌≡◌, rules, take, true}
use Rattle.dump_io.specs.input.Reading.{ahead_of}
use Rattle.dump_io.specs.lines.Find.{MayBeDamaged}
use Rattle.dump_io.proofs.Face.{tells_document}
use Rattle.dump_runs.proofs.dumps.Findings.{finds_sound}
use Rattle.dump_runs.proofs.dumps.Nexting.{document_here, doubted_or_taken}
use Rattle.dump_runs.proofs.dumps.piece.is_taken.Goals as goal

pub returns-then-not-job-clause-told : goal.returns-then-not-job-clause-told
returns-then-not-job-clause-told g c =
    let job = c.args.job in
    let x = c.args.source.now in
    let (window, work, within, piece, (told, found)) = c.requires in
    let clean : job.resync ≡ true → ¬ MayBeDamaged c.args.finding = search rules in
    tells_document job.resync x.left x.left x.window x.window x.work c.args.len work
    (λ asked. finds_sound job.command (take c.args.len (ahead_of x.window)) c.args.finding told piece found (clean asked)) (document_here window within piece)

pub returns-clause-told : goal.returns-clause-told
returns-clause-told g c =
    let job = c.args.job in
    let x = c.args.source.now in
    let y = c.is_doubted.new.self in
    let (window, work, within, piece, others) = c.requires in
    doubted_or_taken x y job.limits job.resync c.args.len (search rules) (window, work, within, piece) c.in_ok-is_doubted.is_doubted c.in_ok-is_doubted.ensures.doubts
