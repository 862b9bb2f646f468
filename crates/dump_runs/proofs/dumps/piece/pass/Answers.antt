use Rattle.std.proofs.Common.{◌+◌, ◌∙◌, Bool, ap, cond, subst}
use Rattle.std.proofs.KnownBytes.{Appends-trans}
use Rattle.std.specs.Io.KnownBytes.{Appends}
use Rattle.dump_io.specs.lines.Fronts.{AppendsFront}
use Rattle.dump_io.proofs.Face.{front_whole, on_any}
use Rattle.dump_runs.specs.Plays.{Written, held}
use Rattle.dump_runs.specs.dumps.Run.{findings_in}
use Rattle.dump_runs.specs.dumps.Steps.{GivesPiece, HaltsPiece}
use Rattle.dump_runs.proofs.dumps.Giving.{IsFound, IsReported, front_line, front_listing, front_made, front_repeat, gives}
use Rattle.dump_runs.proofs.Plays.{written}
use Rattle.dump_runs.proofs.dumps.piece.pass.Goals as goal

pub returns-clause-gives : goal.returns-clause-gives
returns-clause-gives g c =
    let p = c.args.piece in
    let job = c.args.job in
    let t = c.args.tally.now in
    let (piece, (told, found, line_is)) = c.requires in
    let (lines, lists, listed) = c.in_ok-put_listing.ensures.listed in
    let (made, makes, puts) = c.in_ok-first.ensures.written in
    let w = g.W.Write.contents c.writers.inside.report.inner in
    let v = g.W.Write.contents c.put.new.writer.inner in
    let u = g.W.Write.contents c.put_listing.new.report.inner in
    let first : Appends w v p.judged.line.items = subst (Appends w v) c.deref.ensures.value c.in_ok-put.ensures.written in
    let j : IsFound job p t.counts = record { told = told; found = found; line = line_is } in
    let r : IsReported job p w u = record { lines = lines; lists = lists; put = Appends-trans w v u p.judged.line.items lines first listed } in
    let new =
    held (written (g.D.Write.contents c.emit.new.out.inner) (g.A.Write.contents c.writers.inside.alone.inner) (g.W.Write.contents c.put_repeat.new.report.inner))
    (record t { kept = c.count_fields.new.kept }) in
    let number = c.findings_of.ensures ∙ ap (λ (b : Bool). findings_in job.command p.judged.finding + cond b 1 0) c.is_some.ensures in
    subst (λ (x : Written). GivesPiece job p (held x t) new c.findings_of.result) c.writers.view_is
    (gives j r (record { made = made; makes = makes; puts = puts }) c.style_at-style.ensures piece c.in_ok-put_repeat.ensures.written
    (record { table = c.emit.ensures.table; fields = c.in_ok-count_fields.ensures.counted; written = c.count_fields.ensures.written }) number)

pub returns-in_err-put-clause-halts : goal.returns-in_err-put-clause-halts
returns-in_err-put-clause-halts g c =
    let p = c.args.piece in
    let t = c.args.tally.now in
    let (piece, (told, found, line_is)) = c.requires in
    let w = g.W.Write.contents c.writers.inside.report.inner in
    let v = g.W.Write.contents c.put.new.writer.inner in
    let j : IsFound c.args.job p t.counts = record { told = told; found = found; line = line_is } in
    let new = held (written (g.D.Write.contents c.writers.inside.out.inner) (g.A.Write.contents c.writers.inside.alone.inner) v) t in
    on_any _ _ (subst (λ (x : Written). HaltsPiece c.args.job p (held x t) new) c.writers.view_is
    (front_line j (subst (AppendsFront w v) c.deref.ensures.value c.in_err-put.ensures.front)))

pub returns-in_err-put_listing-clause-halts : goal.returns-in_err-put_listing-clause-halts
returns-in_err-put_listing-clause-halts g c =
    let p = c.args.piece in
    let t = c.args.tally.now in
    let (piece, (told, found, line_is)) = c.requires in
    let w = g.W.Write.contents c.writers.inside.report.inner in
    let v = g.W.Write.contents c.put.new.writer.inner in
    let first : Appends w v p.judged.line.items = subst (Appends w v) c.deref.ensures.value c.in_ok-put.ensures.written in
    let j : IsFound c.args.job p t.counts = record { told = told; found = found; line = line_is } in
    let new = held (written (g.D.Write.contents c.writers.inside.out.inner) (g.A.Write.contents c.writers.inside.alone.inner) (g.W.Write.contents c.put_listing.new.report.inner)) t in
    on_any _ _ (subst (λ (x : Written). HaltsPiece c.args.job p (held x t) new) c.writers.view_is
    (front_listing j v first c.in_err-put_listing.ensures.front))

pub returns-in_err-first-clause-halts : goal.returns-in_err-first-clause-halts
returns-in_err-first-clause-halts g c =
    let p = c.args.piece in
    let t = c.args.tally.now in
    let (piece, (told, found, line_is)) = c.requires in
    let (lines, lists, listed) = c.in_ok-put_listing.ensures.listed in
    let w = g.W.Write.contents c.writers.inside.report.inner in
    let v = g.W.Write.contents c.put.new.writer.inner in
    let u = g.W.Write.contents c.put_listing.new.report.inner in
    let first : Appends w v p.judged.line.items = subst (Appends w v) c.deref.ensures.value c.in_ok-put.ensures.written in
    let j : IsFound c.args.job p t.counts = record { told = told; found = found; line = line_is } in
    let r : IsReported c.args.job p w u = record { lines = lines; lists = lists; put = Appends-trans w v u p.judged.line.items lines first listed } in
    let new = held (written (g.D.Write.contents c.emit.new.out.inner) (g.A.Write.contents c.writers.inside.alone.inner) u) (record t { kept = c.emit.new.kept }) in
    on_any _ _ (subst (λ (x : Written). HaltsPiece c.args.job p (held x t) new) c.writers.view_is (front_made j r c.in_err-first.ensures.front))

pub returns-in_err-put_repeat-clause-halts : goal.returns-in_err-put_repeat-clause-halts
returns-in_err-put_repeat-clause-halts g c =
    let p = c.args.piece in
    let t = c.args.tally.now in
    let (piece, (told, found, line_is)) = c.requires in
    let (lines, lists, listed) = c.in_ok-put_listing.ensures.listed in
    let (made, makes, puts) = c.in_ok-first.ensures.written in
    let w = g.W.Write.contents c.writers.inside.report.inner in
    let v = g.W.Write.contents c.put.new.writer.inner in
    let u = g.W.Write.contents c.put_listing.new.report.inner in
    let first : Appends w v p.judged.line.items = subst (Appends w v) c.deref.ensures.value c.in_ok-put.ensures.written in
    let j : IsFound c.args.job p t.counts = record { told = told; found = found; line = line_is } in
    let r : IsReported c.args.job p w u = record { lines = lines; lists = lists; put = Appends-trans w v u p.judged.line.items lines first listed } in
    let new =
    held (written (g.D.Write.contents c.emit.new.out.inner) (g.A.Write.contents c.writers.inside.alone.inner) (g.W.Write.contents c.put_repeat.new.report.inner))
    (record t { kept = c.emit.new.kept }) in
    on_any _ _ (subst (λ (x : Written). HaltsPiece c.args.job p (held x t) new) c.writers.view_is
    (front_repeat j r (record { made = made; makes = makes; puts = puts }) c.style_at-style.ensures c.in_err-put_repeat.ensures.front))

-- all of it was written before the elements were to be counted
pub returns-in_err-count_fields-clause-halts : goal.returns-in_err-count_fields-clause-halts
returns-in_err-count_fields-clause-halts g c =
    let p = c.args.piece in
    let t = c.args.tally.now in
    let (piece, (told, found, line_is)) = c.requires in
    let (lines, lists, listed) = c.in_ok-put_listing.ensures.listed in
    let (made, makes, puts) = c.in_ok-first.ensures.written in
    let w = g.W.Write.contents c.writers.inside.report.inner in
    let v = g.W.Write.contents c.put.new.writer.inner in
    let u = g.W.Write.contents c.put_listing.new.report.inner in
    let first : Appends w v p.judged.line.items = subst (Appends w v) c.deref.ensures.value c.in_ok-put.ensures.written in
    let j : IsFound c.args.job p t.counts = record { told = told; found = found; line = line_is } in
    let r : IsReported c.args.job p w u = record { lines = lines; lists = lists; put = Appends-trans w v u p.judged.line.items lines first listed } in
    let new =
    held (written (g.D.Write.contents c.emit.new.out.inner) (g.A.Write.contents c.writers.inside.alone.inner) (g.W.Write.contents c.put_repeat.new.report.inner))
    (record t { kept = c.count_fields.new.kept }) in
    on_any _ _ (subst (λ (x : Written). HaltsPiece c.args.job p (held x t) new) c.writers.view_is
    (front_repeat j r (record { made = made; makes = makes; puts = puts }) c.style_at-style.ensures (front_whole _ _ _ c.in_ok-put_repeat.ensures.written)))
