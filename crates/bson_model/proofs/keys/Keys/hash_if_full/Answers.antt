use Rattle.std.proofs.Common.{◌≡◌, Option, ℕ, is_some, position, sym, ap, ◌∙◌}
use Rattle.bson_model.specs.Keys.{has_bytes, texts_of}
use Rattle.bson_model.proofs.Places.{somewhere, whatever}
use Rattle.bson_model.proofs.keys.Keys.hash_if_full.Goals as goal

pub returns-in_err-set-clause-absent : goal.returns-in_err-set-clause-absent
returns-in_err-set-clause-absent c =
    let test = has_bytes c.args.key.now in
    let held : c.in-Few.texts.items ≡ c.args.self.now = ap texts_of (sym c.in-Few.is) ∙ c.self.view_is in
    let at : c.index_among.result ≡ position test c.args.self.now = c.index_among.ensures ∙ ap (λ l. position test l) (c.deref.ensures.value ∙ held) in
    whatever c.from_residual.result (sym (somewhere test c.args.self.now) ∙ ap (λ (o : Option ℕ). is_some o) (sym at) ∙ sym c.is_some.ensures ∙ c.if-is_some.false)
