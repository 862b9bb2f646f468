use Rattle.std.proofs.Common.{sym, ◌∙◌}
use Rattle.std.specs.String.{string_bytes}
use Rattle.bson_model.proofs.Kept.{value_found, value_missed, looked_up}
use Rattle.bson_model.proofs.parts.Parts.get.Goals as goal

pub returns-in_err-index : goal.returns-in_err-index
returns-in_err-index g c =
    let a = c.self.inside in
    rw (c.from_residual.ensures, ← c.self.view_is) (sym (value_missed string_bytes c.args.key.now a.keys a.values.items c.self.invariant (sym c.in_err-index.ensures)))

pub returns : goal.returns
returns g c =
    let a = c.self.inside in
    let f = value_found string_bytes c.args.key.now c.in_ok-index.index a.keys a.values.items c.self.invariant (sym c.in_ok-index.ensures) in
    let l = rw c.deref.ensures.value at c.get.ensures.lookup in
    rw (← c.self.view_is) (looked_up c.get.result a.values.items c.in_ok-index.index (l.0, l.1) ∙ sym f)
