use Rattle.std.proofs.Common.{[], ◌∷◌, sym, ◌∙◌}
use Rattle.std.proofs.lemmas.Result.{IfOk-weaker}
use Rattle.dump_io.specs.lines.Fronts.{AppendsFront}
use Rattle.dump_commands.specs.Emitting.{Puts}
use Rattle.dump_commands.specs.state.Forms.{knows, made_as}
use Rattle.dump_commands.specs.Unique.{written_of}
use Rattle.dump_commands.specs.declared.command.Command.TheVariants.{Writes}
use Rattle.dump_io.proofs.Face.{on_err}
use Rattle.dump_commands.proofs.writing.put_document.Goals as goal

pub returns-then-is_unique-clause-written : goal.returns-then-is_unique-clause-written
returns-then-is_unique-clause-written g c =
    let old = g.D.Write.contents c.args.out.now in
    let new = g.D.Write.contents c.put_new.new.out in
    let made = made_as c.args.document.now c.args.form.now ∷ [] in
    let k = c.args.kept.now in
    let k' = c.put_new.new.kept in
    IfOk-weaker c.put_new.result _ (λ first. Puts (Writes c.args.making) c.args.origin made old new k k' first)
    (λ first puts. puts c.args.making (sym c.is_unique.ensures ∙ c.if-is_unique.true)) c.put_new.ensures.written

pub returns-then-is_unique-clause-front : goal.returns-then-is_unique-clause-front
returns-then-is_unique-clause-front g c =
    let old = g.D.Write.contents c.args.out.now in
    let new = g.D.Write.contents c.put_new.new.out in
    let made = made_as c.args.document.now c.args.form.now ∷ [] in
    let k = c.args.kept.now in
    on_err c.put_new.result _ (AppendsFront old new (written_of (Writes c.args.making) (knows k) made))
    (λ front. front c.args.making (sym c.is_unique.ensures ∙ c.if-is_unique.true)) c.put_new.ensures.front
