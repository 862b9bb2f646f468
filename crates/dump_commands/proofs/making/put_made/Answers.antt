use Rattle.std.proofs.Common.{rules, [], inl, inr, refl}
use Rattle.std.proofs.lemmas.Result.{IfOk-weaker}
use Rattle.dump_io.proofs.Face.{on_any, on_err}
use Rattle.dump_commands.specs.Making.{IsJsonLine, MakesOf}
use Rattle.dump_commands.specs.Picking.{IsPickedAs}
use Rattle.dump_commands.specs.declared.command.Command.TheVariants.{Writes}
use Rattle.dump_commands.specs.declared.making.Making.TheVariants as making
use Rattle.dump_commands.proofs.Emitting.{IsClean, form_emitted, form_front, json_emitted, nothing_emitted, text_emitted, text_front}
use Rattle.dump_commands.proofs.making.put_made.Goals as goal
use Rattle.dump_commands.proofs.making.put_made.Goals.{in_default-Damaged-via-in-Sound+in-TooDeep-1, in_default-Damaged-via-in-Canon+in-Damaged-1, in_default-Damaged-via-in-Unique+in-Damaged-1, in_default-Damaged-via-in-Json+in-Damaged-1, in_default-Damaged-via-in-Pick+in-Damaged-1}

pub returns-in_ok-put_json-in-Json-Canonical-clause-written : goal.returns-in_ok-put_json-in-Json-Canonical-clause-written
returns-in_ok-put_json-in-Json-Canonical-clause-written g c =
    let x = c.in-Json-Canonical.style in
    let clean : IsClean c.args.finding = search rules in
    rw c.in-Json-Canonical.is-0 (json_emitted x c.args.origin c.args.bytes.now c.args.finding (g.D.Write.contents c.args.out.now.inner) (g.D.Write.contents c.put_json.new.out.inner)
    c.args.kept.now c.put_json.new.kept clean c.in_ok-put_json-in-Json-Canonical.ensures.written)

pub returns-in_err-put_json-in-Json-Canonical-clause-front : goal.returns-in_err-put_json-in-Json-Canonical-clause-front
returns-in_err-put_json-in-Json-Canonical-clause-front g c =
    let x = c.in-Json-Canonical.style in
    let clean : IsClean c.args.finding = search rules in
    rw c.in-Json-Canonical.is-0 (on_any _ _ (text_front (making.Json x) refl (IsJsonLine x c.args.bytes.now) c.args.bytes.now c.args.finding (λ made is. is) clean
    (g.D.Write.contents c.args.out.now.inner) (g.D.Write.contents c.put_json.new.out.inner) c.args.kept.now c.in_err-put_json-in-Json-Canonical.ensures.front))

pub returns-in_ok-put_picked-in-Pick-Canonical-clause-written : goal.returns-in_ok-put_picked-in-Pick-Canonical-clause-written
returns-in_ok-put_picked-in-Pick-Canonical-clause-written g c =
    let x = c.in-Pick-Canonical.picking in
    let clean : IsClean c.args.finding = search rules in
    rw c.in-Pick-Canonical.is-0 (text_emitted (making.Pick x) refl (IsPickedAs x c.args.bytes.now) c.args.bytes.now c.args.finding (λ made is. is) clean
    (g.D.Write.contents c.args.out.now.inner) (g.D.Write.contents c.put_picked.new.out.inner) c.args.origin (c.args.kept.now, c.put_picked.new.kept)
    c.in_ok-put_picked-in-Pick-Canonical.ensures.written)

pub returns-in_err-put_picked-in-Pick-Canonical-clause-front : goal.returns-in_err-put_picked-in-Pick-Canonical-clause-front
returns-in_err-put_picked-in-Pick-Canonical-clause-front g c =
    let x = c.in-Pick-Canonical.picking in
    let clean : IsClean c.args.finding = search rules in
    rw c.in-Pick-Canonical.is-0 (on_any _ _ (text_front (making.Pick x) refl (IsPickedAs x c.args.bytes.now) c.args.bytes.now c.args.finding (λ made is. is) clean
    (g.D.Write.contents c.args.out.now.inner) (g.D.Write.contents c.put_picked.new.out.inner) c.args.kept.now c.in_err-put_picked-in-Pick-Canonical.ensures.front))

pub returns-in-Canon-Breached-clause-front : goal.returns-in-Canon-Breached-clause-front
returns-in-Canon-Breached-clause-front g c =
    on_err c.put_form.result _ _
    (λ front. form_front c.args.making c.args.bytes.now c.args.finding c.args.kept.now (g.D.Write.contents c.args.out.now.inner) (g.D.Write.contents c.put_form.new.out.inner)
    (inl c.in-Canon-Breached.is-0) c.in-Canon-Breached.is-1 front)
    c.put_form.ensures.front

pub returns-in-Canon-Breached-clause-written : goal.returns-in-Canon-Breached-clause-written
returns-in-Canon-Breached-clause-written g c =
    IfOk-weaker c.put_form.result _ _
    (λ first h. form_emitted c.args.making c.args.origin c.args.bytes.now c.args.finding (g.D.Write.contents c.args.out.now.inner) (g.D.Write.contents c.put_form.new.out.inner)
    c.args.kept.now c.put_form.new.kept first (inl c.in-Canon-Breached.is-0) c.in-Canon-Breached.is-1 h)
    c.put_form.ensures.written

pub returns-in-Unique-Breached-clause-front : goal.returns-in-Unique-Breached-clause-front
returns-in-Unique-Breached-clause-front g c =
    on_err c.put_form-in-Unique-Breached.result _ _
    (λ front. form_front c.args.making c.args.bytes.now c.args.finding c.args.kept.now (g.D.Write.contents c.args.out.now.inner)
    (g.D.Write.contents c.put_form-in-Unique-Breached.new.out.inner) (inr (_, c.in-Unique-Breached.is-0)) c.in-Unique-Breached.is-1 front)
    c.put_form-in-Unique-Breached.ensures.front

pub returns-in-Unique-Breached-clause-written : goal.returns-in-Unique-Breached-clause-written
returns-in-Unique-Breached-clause-written g c =
    IfOk-weaker c.put_form-in-Unique-Breached.result _ _
    (λ first h. form_emitted c.args.making c.args.origin c.args.bytes.now c.args.finding (g.D.Write.contents c.args.out.now.inner) (g.D.Write.contents c.put_form-in-Unique-Breached.new.out.inner)
    c.args.kept.now c.put_form-in-Unique-Breached.new.kept first (inr (_, c.in-Unique-Breached.is-0)) c.in-Unique-Breached.is-1 h)
    c.put_form-in-Unique-Breached.ensures.written

pub returns-in_default-Damaged-clause-written : goal.returns-in_default-Damaged-clause-written
returns-in_default-Damaged-clause-written g c =
    let nothing : MakesOf c.args.making c.args.bytes.now c.args.finding [] = elim c.in_default-Damaged.branch [
      | in_default-Damaged-via-in-Sound+in-TooDeep-1 w ↦ search rules
      | in_default-Damaged-via-in-Canon+in-Damaged-1 w ↦ search rules
      | in_default-Damaged-via-in-Unique+in-Damaged-1 w ↦ search rules
      | in_default-Damaged-via-in-Json+in-Damaged-1 w ↦ search rules
      | in_default-Damaged-via-in-Pick+in-Damaged-1 w ↦ search rules
    ] in
    nothing_emitted (Writes c.args.making) c.args.origin c.args.bytes.now c.args.finding (g.D.Write.contents c.args.out.now.inner) c.args.kept.now nothing
