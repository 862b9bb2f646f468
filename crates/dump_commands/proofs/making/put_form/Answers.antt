use Rattle.std.proofs.Common.{rules, inr, subst, ◌∷◌, [], List, ℕ}
use Rattle.std.proofs.lemmas.Result.{IfOk-weaker}
use Rattle.raw_tree.specs.CanonicalForm.{IsCanonicalForm}
use Rattle.dump_io.specs.lines.Fronts.{AppendsFront, WritesFront}
use Rattle.dump_commands.specs.Emitting.{Puts}
use Rattle.dump_commands.specs.state.Forms.{knows, made_as}
use Rattle.dump_commands.specs.Unique.{written_of}
use Rattle.dump_commands.specs.declared.command.Command.TheVariants.{Writes}
use Rattle.dump_io.proofs.Face.{on_err}
use Rattle.dump_commands.proofs.Emitting.{IsFormWritten, form_made, spelled_made}
use Rattle.dump_commands.proofs.making.put_form.Goals as goal

pub returns-in-Ok-clause-front : goal.returns-in-Ok-clause-front
returns-in-Ok-clause-front g c =
    let m = c.args.making in
    let b = c.args.bytes.now in
    let form = c.as_slice-form.result.now in
    let old = g.D.Write.contents c.args.out.now in
    let new = g.D.Write.contents c.put_document.new.out in
    let k = c.args.kept.now in
    let is : IsCanonicalForm b form = search rules in
    on_err c.put_document.result (AppendsFront old new (written_of (Writes m) (knows k) (made_as c.spelled-document.result.now form ∷ [])))
    (WritesFront (IsFormWritten m b k) old new)
    (λ front. inr (_, (form, is, spelled_made m b form c.spelled-document.result.now k c.spelled-document.ensures), front)) c.put_document.ensures.front

pub returns-in-Ok-clause-written : goal.returns-in-Ok-clause-written
returns-in-Ok-clause-written g c =
    let m = c.args.making in
    let b = c.args.bytes.now in
    let form = c.as_slice-form.result.now in
    let old = g.D.Write.contents c.args.out.now in
    let new = g.D.Write.contents c.put_document.new.out in
    let is : IsCanonicalForm b form = search rules in
    IfOk-weaker c.put_document.result (Puts (Writes m) c.args.origin (made_as c.spelled-document.result.now form ∷ []) old new c.args.kept.now c.put_document.new.kept)
    (λ first. (form : List ℕ) × IsCanonicalForm b form × Puts (Writes m) c.args.origin (form_made m b form) old new c.args.kept.now c.put_document.new.kept first)
    (λ first puts. (form, is, subst (λ (x : List ℕ). Puts (Writes m) c.args.origin (made_as x form ∷ []) old new c.args.kept.now c.put_document.new.kept first) c.spelled-document.ensures puts))
    c.put_document.ensures.written
