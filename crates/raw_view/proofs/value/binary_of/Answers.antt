use Rattle.std.proofs.Common.{◌≢◌, ◌-◌, length, take, drop, get_or, ap, sym, ◌∙◌, refl, inl, inr}
use Rattle.std.proofs.lemmas.Result.{err_from_is_err_and}
use Rattle.bson_model.specs.Leaf.{binary}
use Rattle.bson_model.specs.Subtype.{subtype_of}
use Rattle.raw_view.specs.Meaning.{single}
use Rattle.raw_view.proofs.Frames.Shapes.{binary_cut, old_byte}
use Rattle.raw_view.proofs.value.binary_of.Goals as goal

pub returns-in_ok-inner_bytes-in-BinaryOld-clause-value : goal.returns-in_ok-inner_bytes-in-BinaryOld-clause-value
returns-in_ok-inner_bytes-in-BinaryOld-clause-value c =
    let old = old_byte (get_or c.args.payload.now 4 0) (sym c.from_u8.ensures ∙ c.in-BinaryOld.is) in
    let inner = c.in_ok-inner_bytes-in-BinaryOld.ensures.inner in
    (2, _, rw old at (binary_cut _ _ _ c.requires.2), inr (refl, _, inner, refl))

pub returns-in_err-inner_bytes-in-BinaryOld-clause-fault : goal.returns-in_err-inner_bytes-in-BinaryOld-clause-fault
returns-in_err-inner_bytes-in-BinaryOld-clause-fault c =
    let old = old_byte (get_or c.args.payload.now 4 0) (sym c.from_u8.ensures ∙ c.in-BinaryOld.is) in
    let e = err_from_is_err_and c.from_residual.result c.from_residual.ensures.1 in
    let h = c.in_err-inner_bytes-in-BinaryOld.ensures.fault in
    rw e.1 (h.0, (_, rw old at (binary_cut _ _ _ c.requires.2), h.1), rw e.2 h.2)

pub returns-in_default-clause-value : goal.returns-in_default-clause-value
returns-in_default-clause-value c =
    let p = c.args.payload.now in
    let new : get_or c.args.payload.now 4 0 ≢ 2 = λ two. c.in_default.not-BinaryOld (c.from_u8.ensures ∙ ap subtype_of two) in
    (_, _, binary_cut _ _ _ c.requires.2, inl (new, ap (λ s. single (binary s (take (length p - 5) (drop 5 p)))) c.from_u8.ensures))
