use Rattle.std.proofs.Common.{◌≡◌, [], ◌∷◌, List, None, Some, inr, refl}
use Rattle.dump_io.specs.lines.Fronts.{AppendsFront, WritesFront}
use Rattle.dump_io.proofs.Face.{on_err}
use Rattle.dump_commands.specs.Texts.{KeepsAs, MakesKept}
use Rattle.dump_commands.specs.Unique.{written_of}
use Rattle.dump_commands.specs.declared.command.Command.TheVariants.{Writes}
use Rattle.dump_commands.specs.declared.making.Making.TheVariants.{Sound}
use Rattle.dump_commands.specs.state.Forms.{Made, knows, plain}
use Rattle.dump_commands.proofs.Emitting.{nothing_put}
use Rattle.dump_commands.proofs.texts.put_kept.Goals as goal

pub returns-in_default-clause-written : goal.returns-in_default-clause-written
returns-in_default-clause-written g c =
    ([], (None, rw c.in_default.is at c.in_ok-document.ensures, refl), nothing_put (Writes (Sound c.args.texts)) c.args.origin (g.D.Write.contents c.args.out.now) c.args.kept.now)

pub returns-clause-front : goal.returns-clause-front
returns-clause-front g c =
    let texts = c.args.texts in
    let b = c.args.bytes.now in
    let d = c.as_slice-document.result.now in
    let old = g.D.Write.contents c.args.out.now in
    let new = g.D.Write.contents c.put_document.new.out in
    let k = c.args.kept.now in
    let keeps : KeepsAs texts b (Some d) = rw c.as_slice-document.ensures.value (rw c.in-Some.is at c.in_ok-document.ensures) in
    on_err c.put_document.result (AppendsFront old new (written_of (Writes (Sound texts)) (knows k) (plain d ∷ [])))
    (WritesFront (λ text. (made : List Made) × MakesKept texts b made × (text ≡ written_of (Writes (Sound texts)) (knows k) made)) old new)
    (λ front. inr (_, (plain d ∷ [], (Some d, keeps, refl), refl), front)) c.put_document.ensures.front
