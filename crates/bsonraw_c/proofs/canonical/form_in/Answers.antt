use Rattle.std.proofs.Common.{List, ap, inl, inr, length, refl, subst, ℕ}
use Rattle.raw_bson.specs.Document.{bytes_of}
use Rattle.raw_form.specs.FormsWithin.{IsFormWithin}
use Rattle.bsonraw_c.specs.Forms.{PutsForm}
use Rattle.bsonraw_c.proofs.Reporting.{lacks_form, runs_out}
use Rattle.bsonraw_c.proofs.canonical.form_in.Goals as goal

pub returns-in-Ok : goal.returns-in-Ok
returns-in-Ok c =
    let form = c.in-Ok.form.items in
    let within = subst (λ (b : List ℕ). IsFormWithin c.args.limits b form) c.as_bytes.ensures.bytes c.in-Ok.ensures.form in
    let end = subst (λ (n : ℕ). PutsForm n c.deref.result.now c.args.room.now c.put_form.new.room c.put_form.new.report c.put_form.result)
    (ap length c.as_bytes-end.ensures.bytes) c.put_form.ensures in
    let put = subst (λ (items : List ℕ). PutsForm (length (bytes_of c.args.document)) items c.args.room.now c.put_form.new.room c.put_form.new.report c.put_form.result) c.deref.ensures.value end in
    inl (form, within, put, refl)

pub returns-in-Done : goal.returns-in-Done
returns-in-Done c = inr (inr (inr (
  runs_out c.args.limits
      (bytes_of c.args.document) c.args.path.now c.fault_in.new.path c.fault_in.new.report c.fault_in.result c.fault_in.ensures c.in-Done.is,
  refl,
)))

pub returns : goal.returns
returns c = lacks_form c.args.limits (bytes_of c.args.document) c.args.room.now c.args.path.now c.fault_in.new.path c.fault_in.new.report c.fault_in.result c.fault_in.ensures c.in_default.not-Done
