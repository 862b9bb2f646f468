use Rattle.std.proofs.Common.{List, inl, of_z, rules, subst, to_z, w32, ℕ}
use Rattle.bsonraw_c.specs.Forms.{FormsIn}
use Rattle.bsonraw_c.specs.Iters.{Returns}
use Rattle.bsonraw_c.proofs.canonical.bsonraw_canonical.Goals as goal

pub returns-in-Ok : goal.returns-in-Ok
returns-in-Ok c =
    let forms = subst (λ (b : List ℕ). FormsIn (record { bytes = c.args.max_bytes; depth = c.args.max_depth }) b c.args.form.now c.form_in.new.room
    c.args.path.now c.form_in.new.path c.form_in.new.report c.form_in.result) c.in-Ok.ensures.same c.form_in.ensures in
    let code : Returns c.form_in.result (to_z w32 (of_z w32 c.number.result)) = search rules in
    inl (c.in-Ok.ensures.sound, c.form_in.result, forms, code)
