use Rattle.std.proofs.Common.{◌≡◌, ◌∙◌, List, ap, map, sym}
use Rattle.dump_io.proofs.Face.{on_err, on_ok}
use Rattle.dump_commands.specs.diff.Lines.{is_quiet}
use Rattle.dump_commands.specs.diff.Pairs.{told_by, told_of}
use Rattle.dump_commands.specs.diff.Sides.{sides_of}
use Rattle.dump_commands.specs.declared.diff.pairs.Told.{Told}
use Rattle.dump_commands.proofs.Telling.{tells_all, tells_front, tells_none}
use Rattle.dump_commands.proofs.diff.tell.put_differences.Goals as goal

pub returns-then-is_quiet-clause-written : goal.returns-then-is_quiet-clause-written
returns-then-is_quiet-clause-written g c =
    let t = c.args.telling in
    tells_none t (g.I.Inputs.bytes_of c.args.inputs.now) (sides_of c.args.sides.now) (is_quiet t.style) (g.W.Write.contents c.args.report.now) (sym c.is_quiet.ensures ∙ c.if-is_quiet.true)

pub returns-clause-written : goal.returns-clause-written
returns-clause-written g c =
    let t = c.args.telling in
    let all = sides_of c.args.sides.now in
    let is : map told_by c.deref.result.now ≡ told_of all = ap (λ (xs : List Told). map told_by xs) c.deref.ensures.value ∙ c.requires.told in
    on_ok c.put_all.result _ _
    (tells_all t (g.I.Inputs.bytes_of c.args.inputs.now) all (map told_by c.deref.result.now) c.args.compared.now.differences is c.requires.counted (is_quiet t.style)
    (g.W.Write.contents c.args.report.now) (g.W.Write.contents c.put_all.new.report) (sym c.is_quiet.ensures ∙ c.if-is_quiet.false)) c.put_all.ensures.written

pub returns-clause-front : goal.returns-clause-front
returns-clause-front g c =
    let t = c.args.telling in
    let all = sides_of c.args.sides.now in
    let is : map told_by c.deref.result.now ≡ told_of all = ap (λ (xs : List Told). map told_by xs) c.deref.ensures.value ∙ c.requires.told in
    on_err c.put_all.result _ _
    (tells_front t (g.I.Inputs.bytes_of c.args.inputs.now) all (map told_by c.deref.result.now) c.args.compared.now.differences is c.requires.counted (is_quiet t.style)
    (g.W.Write.contents c.args.report.now) (g.W.Write.contents c.put_all.new.report) (sym c.is_quiet.ensures ∙ c.if-is_quiet.false)) c.put_all.ensures.front
