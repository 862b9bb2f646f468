use Rattle.std.proofs.Common.{◌∙◌, inl, inr, refl}
use Rattle.bsonraw_c.proofs.Iterating.{crosses}
use Rattle.bsonraw_c.proofs.comparing.bsonraw_compare.Goals as goal

pub returns-in-Err : goal.returns-in-Err
returns-in-Err c = inr (c.in-Err.status, inl c.in-Err.ensures.none, refl, crosses c.number.result c.number.type_inv ∙ c.number.ensures)

pub returns-in-Err-form_of : goal.returns-in-Err-form_of
returns-in-Err-form_of c =
    let code = c.number-in-Err-form_of in
    inr (c.in-Err-form_of.status, inr (c.in-Ok.form.items, c.in-Ok.ensures.form, c.in-Err-form_of.ensures.none), refl, crosses code.result code.type_inv ∙ code.ensures)
