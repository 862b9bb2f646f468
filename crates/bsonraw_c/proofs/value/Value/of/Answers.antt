use Rattle.std.proofs.Common.{◌≡◌, ◌∙◌, ℕ, ap, arith, length, refl, subst, sym}
use Rattle.raw_bson.specs.Kind.{tag_of}
use Rattle.raw_bson.specs.Leaf.{binary, db_pointer, javascript_code, regular_expression, string, symbol}
use Rattle.raw_bson.specs.Meaning.{RawValue, kind_of_raw, scoped, single}
use Rattle.raw_bson.specs.Document.{bytes_of}
use Rattle.raw_bson.specs.Value.{id_of, namespace_of, value_of}
use Rattle.bsonraw_c.specs.Iters.{place_of_none}
use Rattle.bsonraw_c.specs.Places.{StandsAt}
use Rattle.bsonraw_c.specs.Values.{SaysValue, no_value}
use Rattle.bsonraw_c.proofs.Iterating.{stands_inside}
use Rattle.bsonraw_c.proofs.Parts.{HasPartsAt, parts_there}
use Rattle.bsonraw_c.proofs.Valuing.{says_binary, says_part, says_parts}
use Rattle.bsonraw_c.proofs.value.Value.of.Goals as goal

pub returns-in-String : goal.returns-in-String
returns-in-String c =
    let b = c.args.bytes.now in
    let p = c.args.element.payload.now in
    let v : RawValue = single (string c.in-String.text.now) in
    let is : value_of c.args.found ≡ v = ap value_of c.in-String.is in
    let part = subst (λ (w : RawValue). HasPartsAt w p) is (parts_there c.args.element.kind p (value_of c.args.found) c.requires.means) in
    let none = no_value (place_of_none b) (tag_of (kind_of_raw v)) in
    let kept : c.of_kind-none.result ≡ none = c.of_kind-none.ensures ∙ ap (λ (w : RawValue). no_value (place_of_none b) (tag_of (kind_of_raw w))) is in
    let there = stands_inside b p c.in-String.text.now c.args.at _ 4 _ c.requires.there part in
    subst (λ (w : RawValue). SaysValue b c.args.at w c.text.result) (sym is) (says_part c.text.result kept (record { there = there; place_is = refl; size_is = refl }) c.text.ensures)

pub returns-in-JavaScriptCode : goal.returns-in-JavaScriptCode
returns-in-JavaScriptCode c =
    let b = c.args.bytes.now in
    let p = c.args.element.payload.now in
    let v : RawValue = single (javascript_code c.in-JavaScriptCode.text.now) in
    let is : value_of c.args.found ≡ v = ap value_of c.in-JavaScriptCode.is in
    let part = subst (λ (w : RawValue). HasPartsAt w p) is (parts_there c.args.element.kind p (value_of c.args.found) c.requires.means) in
    let none = no_value (place_of_none b) (tag_of (kind_of_raw v)) in
    let kept : c.of_kind-none.result ≡ none = c.of_kind-none.ensures ∙ ap (λ (w : RawValue). no_value (place_of_none b) (tag_of (kind_of_raw w))) is in
    let there = stands_inside b p c.in-JavaScriptCode.text.now c.args.at _ 4 _ c.requires.there part in
    subst (λ (w : RawValue). SaysValue b c.args.at w c.text-in-JavaScriptCode.result) (sym is)
    (says_part c.text-in-JavaScriptCode.result kept (record { there = there; place_is = refl; size_is = refl }) c.text-in-JavaScriptCode.ensures)

pub returns-in-Symbol : goal.returns-in-Symbol
returns-in-Symbol c =
    let b = c.args.bytes.now in
    let p = c.args.element.payload.now in
    let v : RawValue = single (symbol c.in-Symbol.text.now) in
    let is : value_of c.args.found ≡ v = ap value_of c.in-Symbol.is in
    let part = subst (λ (w : RawValue). HasPartsAt w p) is (parts_there c.args.element.kind p (value_of c.args.found) c.requires.means) in
    let none = no_value (place_of_none b) (tag_of (kind_of_raw v)) in
    let kept : c.of_kind-none.result ≡ none = c.of_kind-none.ensures ∙ ap (λ (w : RawValue). no_value (place_of_none b) (tag_of (kind_of_raw w))) is in
    let there = stands_inside b p c.in-Symbol.text.now c.args.at _ 4 _ c.requires.there part in
    subst (λ (w : RawValue). SaysValue b c.args.at w c.text-in-Symbol.result) (sym is)
    (says_part c.text-in-Symbol.result kept (record { there = there; place_is = refl; size_is = refl }) c.text-in-Symbol.ensures)

pub returns-in-Binary : goal.returns-in-Binary
returns-in-Binary c =
    let b = c.args.bytes.now in
    let p = c.args.element.payload.now in
    let v : RawValue = single (binary c.in-Binary.binary.subtype c.in-Binary.binary.bytes.now) in
    let is : value_of c.args.found ≡ v = ap value_of c.in-Binary.is in
    let part = subst (λ (w : RawValue). HasPartsAt w p) is (parts_there c.args.element.kind p (value_of c.args.found) c.requires.means) in
    let none = no_value (place_of_none b) (tag_of (kind_of_raw v)) in
    let kept : c.of_kind-none.result ≡ none = c.of_kind-none.ensures ∙ ap (λ (w : RawValue). no_value (place_of_none b) (tag_of (kind_of_raw w))) is in
    let there = stands_inside b p c.in-Binary.binary.bytes.now c.args.at _ _ _ c.requires.there part.0 in
    subst (λ (w : RawValue). SaysValue b c.args.at w c.subtype.result) (sym is)
    (says_binary c.subtype.result kept (record { there = there; place_is = omega (arith, c.len-len.ensures, part.1); size_is = refl })
    c.text-in-Binary.result _ c.to_u8.result c.to_u8.ensures c.text-in-Binary.ensures c.subtype.ensures)

pub returns-in-RegularExpression : goal.returns-in-RegularExpression
returns-in-RegularExpression c =
    let b = c.args.bytes.now in
    let p = c.args.element.payload.now in
    let v : RawValue = single (regular_expression c.in-RegularExpression.regex.pattern.now c.in-RegularExpression.regex.options.now) in
    let is : value_of c.args.found ≡ v = ap value_of c.in-RegularExpression.is in
    let part = subst (λ (w : RawValue). HasPartsAt w p) is (parts_there c.args.element.kind p (value_of c.args.found) c.requires.means) in
    let none = no_value (place_of_none b) (tag_of (kind_of_raw v)) in
    let kept : c.of_kind-none.result ≡ none = c.of_kind-none.ensures ∙ ap (λ (w : RawValue). no_value (place_of_none b) (tag_of (kind_of_raw w))) is in
    let pattern = c.in-RegularExpression.regex.pattern.now in
    let options = c.in-RegularExpression.regex.options.now in
    let first = subst (λ (n : ℕ). StandsAt b n (length pattern) pattern) (omega arith) (stands_inside b p pattern c.args.at _ 0 _ c.requires.there part.0) in
    let second = stands_inside b p options c.args.at _ _ _ c.requires.there part.1 in
    subst (λ (w : RawValue). SaysValue b c.args.at w c.more.result) (sym is)
    (says_parts c.more.result kept (record { there = first; place_is = refl; size_is = refl }) c.text-in-RegularExpression.result
    (record { there = second; place_is = refl; size_is = refl }) c.text-in-RegularExpression.ensures c.more.ensures)

pub returns-in-DbPointer : goal.returns-in-DbPointer
returns-in-DbPointer c =
    let b = c.args.bytes.now in
    let p = c.args.element.payload.now in
    let v : RawValue = single (db_pointer (namespace_of c.in-DbPointer.field-0) (id_of c.in-DbPointer.field-0)) in
    let is : value_of c.args.found ≡ v = ap value_of c.in-DbPointer.is in
    let part = subst (λ (w : RawValue). HasPartsAt w p) is (parts_there c.args.element.kind p (value_of c.args.found) c.requires.means) in
    let none = no_value (place_of_none b) (tag_of (kind_of_raw v)) in
    let kept : c.of_kind-none.result ≡ none = c.of_kind-none.ensures ∙ ap (λ (w : RawValue). no_value (place_of_none b) (tag_of (kind_of_raw w))) is in
    let namespace = namespace_of c.in-DbPointer.field-0 in
    let id = id_of c.in-DbPointer.field-0 in
    let first = stands_inside b p namespace c.args.at _ 4 _ c.requires.there part.0 in
    let second = stands_inside b p id c.args.at _ _ _ c.requires.there part.1 in
    subst (λ (w : RawValue). SaysValue b c.args.at w c.more-in-DbPointer.result) (sym is)
    (says_parts c.more-in-DbPointer.result kept (record { there = first; place_is = refl; size_is = omega (arith, c.len-in-DbPointer.ensures, part.2) })
    c.text-in-DbPointer.result (record { there = second; place_is = omega (arith, c.len-len.ensures, part.2); size_is = sym part.3 })
    c.text-in-DbPointer.ensures c.more-in-DbPointer.ensures)

pub returns-in-JavaScriptCodeWithScope : goal.returns-in-JavaScriptCodeWithScope
returns-in-JavaScriptCodeWithScope c =
    let b = c.args.bytes.now in
    let p = c.args.element.payload.now in
    let v : RawValue = scoped c.in-JavaScriptCodeWithScope.code.code.now (bytes_of c.in-JavaScriptCodeWithScope.code.scope) in
    let is : value_of c.args.found ≡ v = ap value_of c.in-JavaScriptCodeWithScope.is in
    let part = subst (λ (w : RawValue). HasPartsAt w p) is (parts_there c.args.element.kind p (value_of c.args.found) c.requires.means) in
    let none = no_value (place_of_none b) (tag_of (kind_of_raw v)) in
    let kept : c.of_kind-none.result ≡ none = c.of_kind-none.ensures ∙ ap (λ (w : RawValue). no_value (place_of_none b) (tag_of (kind_of_raw w))) is in
    let code = c.in-JavaScriptCodeWithScope.code.code.now in
    let scope = bytes_of c.in-JavaScriptCodeWithScope.code.scope in
    let size : length c.as_bytes-size.result.now ≡ length scope = ap length c.as_bytes-size.ensures.bytes in
    let first = stands_inside b p code c.args.at _ 8 _ c.requires.there part.0 in
    let second = stands_inside b p scope c.args.at _ _ _ c.requires.there part.1 in
    subst (λ (w : RawValue). SaysValue b c.args.at w c.more-in-JavaScriptCodeWithScope.result) (sym is)
    (says_parts c.more-in-JavaScriptCodeWithScope.result kept (record { there = first; place_is = refl; size_is = refl })
    c.text-in-JavaScriptCodeWithScope.result (record { there = second; place_is = omega (arith, c.len-len.ensures, size, part.2); size_is = size })
    c.text-in-JavaScriptCodeWithScope.ensures c.more-in-JavaScriptCodeWithScope.ensures)
