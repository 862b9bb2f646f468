use Rattle.std.proofs.Common.{List, subst, ℕ}
use Rattle.std.specs.Io.KnownBytes.{Appends}
use Rattle.dump_io.proofs.Face.{on_any}
use Rattle.dump_io.specs.lines.Fronts.{AppendsFront}
use Rattle.raw_view.specs.Frame.Envelope.{IsEnvelope}
use Rattle.dump_commands.specs.elements.Runs.{Sheet, sheet_of}
use Rattle.dump_commands.specs.elements.ShownLevels.{IsPartly, IsWritten}
use Rattle.dump_commands.proofs.elements.Steps.{piece_front, piece_shown, reason_of, refused_as, refused_front, refused_shown}
use Rattle.dump_commands.proofs.elements.showing.show_piece.Goals as goal

pub returns-clause-shown : goal.returns-clause-shown
returns-clause-shown g c =
    let b = c.args.bytes.now in
    let old = g.W.Write.contents c.args.out.now in
    let new = g.W.Write.contents c.show_document.new.out in
    let is : IsEnvelope b = subst IsEnvelope c.in-Ok.ensures.same c.in-Ok.document.envelope in
    let written = subst (λ (d : List ℕ). IsWritten d (sheet_of c.new-page.result) old new) c.in-Ok.ensures.same c.in_ok-show_document.ensures.shown in
    piece_shown c.args.most c.args.base b old new is (subst (λ (s : Sheet). IsWritten b s old new) c.new-page.ensures.sheet written)

pub returns-in_err-show_document-clause-front : goal.returns-in_err-show_document-clause-front
returns-in_err-show_document-clause-front g c =
    let b = c.args.bytes.now in
    let old = g.W.Write.contents c.args.out.now in
    let new = g.W.Write.contents c.show_document.new.out in
    let is : IsEnvelope b = subst IsEnvelope c.in-Ok.ensures.same c.in-Ok.document.envelope in
    let partly = subst (λ (d : List ℕ). IsPartly d (sheet_of c.new-page.result) old new) c.in-Ok.ensures.same c.in_err-show_document.ensures.front in
    on_any _ _ (piece_front c.args.most c.args.base b old new is (subst (λ (s : Sheet). IsPartly b s old new) c.new-page.ensures.sheet partly))

pub returns-in-Err-clause-shown : goal.returns-in-Err-clause-shown
returns-in-Err-clause-shown g c =
    let b = c.args.bytes.now in
    let old = g.W.Write.contents c.args.out.now in
    let new = g.W.Write.contents c.show_refused.new.out in
    let (why, refuses, is) = reason_of c.in-Err.error.kind b c.in-Err.ensures.refused.reason in
    let put = c.in_ok-show_refused-in-Err.ensures.shown why is in
    refused_shown c.args.most c.args.base b why refuses old new
    (subst (λ (x : List ℕ). Appends old new x) (refused_as c.args.most c.args.base b why c.in-Err.error.kind (sheet_of c.new-page.result) is c.new-page.ensures.sheet) put)

pub returns-in_err-show_refused-in-Err-clause-front : goal.returns-in_err-show_refused-in-Err-clause-front
returns-in_err-show_refused-in-Err-clause-front g c =
    let b = c.args.bytes.now in
    let old = g.W.Write.contents c.args.out.now in
    let new = g.W.Write.contents c.show_refused.new.out in
    let (why, refuses, is) = reason_of c.in-Err.error.kind b c.in-Err.ensures.refused.reason in
    let front = c.in_err-show_refused-in-Err.ensures.front why is in
    on_any _ _ (refused_front c.args.most c.args.base b why refuses old new
    (subst (λ (x : List ℕ). AppendsFront old new x) (refused_as c.args.most c.args.base b why c.in-Err.error.kind (sheet_of c.new-page.result) is c.new-page.ensures.sheet) front))
