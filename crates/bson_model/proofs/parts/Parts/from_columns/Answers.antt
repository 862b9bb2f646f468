use Rattle.std.proofs.Common.{◌≡◌, Bool, true, false, not, [], length, refl, sym, ◌∙◌, arith}
use Rattle.std.specs.String.{string_bytes}
use Rattle.bson_model.specs.Keys.{is_among}
use Rattle.bson_model.proofs.Columns.{set_more, set_whole}
use Rattle.bson_model.proofs.parts.Parts.from_columns.Goals as goal

was_new : (b : Bool) → true ≡ not b → b ≡ false
was_new true e = cc
was_new false e = refl

pub loop-key-init : goal.loop-key-init
loop-key-init g c =
    let none : c.in_ok-distinct.distinct ≡ [] = c.in_ok-distinct.ensures in
    rw none (refl, refl)

pub loop-key-preserved : goal.loop-key-preserved
loop-key-preserved g c =
    let held = c.loop-key.distinct in
    let text = c.in_ok-from_str.field-0 in
    let same : length c.args.values.items ≡ length c.args.keys.now = omega (arith, c.if-keys-len.false, c.len.ensures, c.args.values.ok.0) in
    let new : is_among (string_bytes text) held ≡ false = was_new (is_among (string_bytes text) held) (sym c.if-not-is_new.false ∙ c.in_ok-is_new.ensures.is_new) in
    let keys = rw new at c.in_ok-is_new.ensures.keys in
    set_more c.args.keys.now c.args.values.items held c.loop-key.key-index _ text c.loop-key-test.true same c.in_ok-from_str.ensures.ok new keys c.loop-key.invariant

pub invariant_of-result : goal.invariant_of-result
invariant_of-result g c =
    omega (arith, c.loop-key.invariant.0, c.loop-key-test.false, c.loop-key.auto.key-index-end, c.if-keys-len.false, c.len.ensures, c.args.values.ok.0)

pub returns : goal.returns
returns g c =
    let same : length c.args.values.items ≡ length c.args.keys.now = omega (arith, c.if-keys-len.false, c.len.ensures, c.args.values.ok.0) in
    set_whole c.args.keys.now c.args.values.items c.loop-key.distinct c.loop-key.key-index same c.loop-key-test.false c.loop-key.invariant
