use Rattle.bson_to_json.proofs.Common.{Appends, IsDoubleJson, binary64, on_ok_weaker, wrapped_double}
use Rattle.std.proofs.Common.{sym, ◌∙◌, subst, refl, from_bits}
use Rattle.bson_to_json.specs.declared.style.Format.{Format}
use Rattle.bson_to_json.proofs.Numbers.{relaxed_finite, relaxed_other}
use Rattle.bson_to_json.proofs.doubles.put_double.Goals as goal

pub returns-then-is_finite : goal.returns-then-is_finite
returns-then-is_finite g c =
    let x = from_bits binary64 c.args.bits in
    let text = c.text_of-is_finite.result.1.now in
    let is = relaxed_finite x text (sym c.text_of-is_finite.ensures.finite ∙ c.if-is_finite.true) c.text_of-is_finite.ensures.text in
    on_ok_weaker c.put_words.result (λ (p : Appends (g.W.Write.contents c.args.out.now) (g.W.Write.contents c.put_words.new.out) text).
    (text, subst (λ (f : Format). IsDoubleJson f x text) (sym c.in-Relaxed.is) is, p)) c.put_words.ensures

pub returns-else-is_finite : goal.returns-else-is_finite
returns-else-is_finite g c =
    let x = from_bits binary64 c.args.bits in
    let number = c.text_of-is_finite.result.1.now in
    let text = wrapped_double number in
    let is = relaxed_other x text (sym c.text_of-is_finite.ensures.finite ∙ c.if-is_finite.false) (number, c.text_of-is_finite.ensures.text, refl) in
    on_ok_weaker c.put_wrapped-else-is_finite.result (λ (p : Appends (g.W.Write.contents c.args.out.now)
    (g.W.Write.contents c.put_wrapped-else-is_finite.new.out) text). (text, subst (λ (f : Format). IsDoubleJson f x text) (sym c.in-Relaxed.is) is, p))
    c.put_wrapped-else-is_finite.ensures
