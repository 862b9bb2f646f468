use Rattle.std.proofs.Common.{◌∙◌, inl, inr, rules, subst, sym, w64}
use Rattle.std.proofs.lemmas.Bool.{false≢true}
use Rattle.std.proofs.lemmas.Int.{to_z-of_z}
use Rattle.std.proofs.lemmas.Result.{IfOk-weaker}
use Rattle.bson_to_json.specs.Dates.{HasInstantText, IsInstantText}
use Rattle.bson_to_json.specs.ShortTexts.{short_bytes}
use Rattle.dump_commands.proofs.elements.cell.time.Goals as goal

pub returns-in-Some : goal.returns-in-Some
returns-in-Some c =
    let millis = c.in_ok-millis.millis in
    let instant : IsInstantText millis (short_bytes c.in-Some.text) = subst (λ z. IsInstantText z (short_bytes c.in-Some.text)) (to_z-of_z w64 millis (search rules)) c.in-Some.ensures.some in
    IfOk-weaker c.from_slice.result _ _
    (λ text is. (millis, c.in_ok-millis.ensures, inl (subst (IsInstantText millis) (sym (is ∙ c.as_bytes.ensures.bytes)) instant)))
    c.from_slice.ensures.items

pub returns-in-None : goal.returns-in-None
returns-in-None c =
    let millis = c.in_ok-millis.millis in
    let has = subst HasInstantText (sym (to_z-of_z w64 millis (search rules))) in
    IfOk-weaker c.value_text.result _ _ (λ text is. (millis, c.in_ok-millis.ensures, inr (λ h. false≢true (c.in-None.ensures.has_text.1 (has h)), is))) c.value_text.ensures
