use Rattle.std.proofs.Common.{◌≡◌, Some, None, position, refl, sym, ◌∙◌}
use Rattle.std.specs.String.{string_bytes}
use Rattle.bson_model.specs.Keys.{has_bytes}
use Rattle.bson_model.proofs.Places.{met, missed, still_distinct, whatever}
use Rattle.bson_model.proofs.keys.insert_among.Goals as goal

pub returns-in-Some-clause-is_new : goal.returns-in-Some-clause-is_new
returns-in-Some-clause-is_new c =
    let found : Some c.in-Some.index ≡ position (has_bytes c.as_str.result.now) c.deref.result.now = c.in-Some.ensures in
    let m = met (has_bytes (string_bytes c.args.key)) c.args.texts.now.items c.in-Some.index (sym (rw (c.as_str.ensures.value, c.deref.ensures.value) at found)) in
    rw m.0 refl

pub returns-in-Some-clause-keys : goal.returns-in-Some-clause-keys
returns-in-Some-clause-keys c =
    let found : Some c.in-Some.index ≡ position (has_bytes c.as_str.result.now) c.deref.result.now = c.in-Some.ensures in
    let m = met (has_bytes (string_bytes c.args.key)) c.args.texts.now.items c.in-Some.index (sym (rw (c.as_str.ensures.value, c.deref.ensures.value) at found)) in
    rw m.0 refl

pub returns-in_err-push-clause-absent : goal.returns-in_err-push-clause-absent
returns-in_err-push-clause-absent c =
    let none : None ≡ position (has_bytes c.as_str.result.now) c.deref.result.now = c.in_default.ensures in
    let m = missed (has_bytes (string_bytes c.args.key)) c.args.texts.now.items (sym (rw (c.as_str.ensures.value, c.deref.ensures.value) at none)) in
    whatever c.from_residual.result m.0

pub returns-clause-index : goal.returns-clause-index
returns-clause-index c =
    let none : None ≡ position (has_bytes c.as_str.result.now) c.deref.result.now = c.in_default.ensures in
    let m = missed (has_bytes (string_bytes c.args.key)) c.args.texts.now.items (sym (rw (c.as_str.ensures.value, c.deref.ensures.value) at none)) in
    c.len-index.ensures ∙ c.args.texts.now.ok.0 ∙ sym m.1

pub returns-clause-is_new : goal.returns-clause-is_new
returns-clause-is_new c =
    let none : None ≡ position (has_bytes c.as_str.result.now) c.deref.result.now = c.in_default.ensures in
    let m = missed (has_bytes (string_bytes c.args.key)) c.args.texts.now.items (sym (rw (c.as_str.ensures.value, c.deref.ensures.value) at none)) in
    rw m.0 refl

pub returns-clause-keys : goal.returns-clause-keys
returns-clause-keys c =
    let none : None ≡ position (has_bytes c.as_str.result.now) c.deref.result.now = c.in_default.ensures in
    let m = missed (has_bytes (string_bytes c.args.key)) c.args.texts.now.items (sym (rw (c.as_str.ensures.value, c.deref.ensures.value) at none)) in
    rw m.0 c.in_ok-push.ensures.items

pub returns-clause-distinct : goal.returns-clause-distinct
returns-clause-distinct c h =
    let none : None ≡ position (has_bytes c.as_str.result.now) c.deref.result.now = c.in_default.ensures in
    let m = missed (has_bytes (string_bytes c.args.key)) c.args.texts.now.items (sym (rw (c.as_str.ensures.value, c.deref.ensures.value) at none)) in
    rw c.in_ok-push.ensures.items (still_distinct c.args.key c.args.texts.now.items h m.0)
