use Rattle.std.proofs.Common.{◌≡◌, refl, rules}
use Rattle.bson_from_json.specs.declared.levels.Holder.TheVariants as holder
use Rattle.bson_from_json.proofs.Moments.{begun_taken, on_ok}
use Rattle.bson_from_json.proofs.Keeps.{array_level_keeps, array_level_stops, array_takes, begun_keeps, begun_stops, on_err}
use Rattle.bson_from_json.proofs.Steps.{has_members}
use Rattle.bson_from_json.proofs.TypeKeys.{level_keeps, level_stops, typed_taken}
use Rattle.bson_from_json.proofs.reading.Reader.on_with.Goals as goal

pub returns-in_ok-push-in-Begun-clause-rest : goal.returns-in_ok-push-in-Begun-clause-rest
returns-in_ok-push-in-Begun-clause-rest c =
    let is : c.args.level.holder ≡ holder.Begun c.in-Begun.key = search rules in
    on_ok c.value_of.result
    (λ value. begun_taken _ _ c.args.level c.in-Begun.key is (record { levels = c.in_ok-push-in-Begun.ensures.level; bytes = c.push.ensures.bytes; tokens = refl }) value) c.value_of.ensures.rest

pub member-requires : goal.member-requires
member-requires c = record { members = has_members c.args.level.holder c.in_default.not-Array c.in_default.not-Begun c.in_default.not-Typed; placed = c.requires }

pub returns-in_ok-push-in-Begun-clause-keeps : goal.returns-in_ok-push-in-Begun-clause-keeps
returns-in_ok-push-in-Begun-clause-keeps c =
    let is : c.args.level.holder ≡ holder.Begun c.in-Begun.key = search rules in
    on_ok c.value_of.result (λ value. begun_keeps _ _ c.args.level c.in-Begun.key is
    (record { limits = c.push.ensures.limits; levels = c.in_ok-push-in-Begun.ensures.level; bytes = c.push.ensures.bytes }) refl value) c.value_of.ensures.keeps

pub returns-in_ok-push-in-Begun-clause-stops : goal.returns-in_ok-push-in-Begun-clause-stops
returns-in_ok-push-in-Begun-clause-stops c =
    let is : c.args.level.holder ≡ holder.Begun c.in-Begun.key = search rules in
    on_err c.value_of.result (λ r stops. begun_stops r c.args.level c.in-Begun.key is
    (record { limits = c.push.ensures.limits; levels = c.in_ok-push-in-Begun.ensures.level; bytes = c.push.ensures.bytes }) refl stops) c.value_of.ensures.stops

pub returns-in-Array-clause-rest : goal.returns-in-Array-clause-rest
returns-in-Array-clause-rest c =
    let is : c.args.level.holder ≡ holder.Array c.in-Array.items = search rules in on_ok c.item.result (λ takes. array_takes c.args.level c.in-Array.items is takes) c.item.ensures.rest

pub returns-in-Array-clause-keeps : goal.returns-in-Array-clause-keeps
returns-in-Array-clause-keeps c =
    let is : c.args.level.holder ≡ holder.Array c.in-Array.items = search rules in on_ok c.item.result (λ keeps. array_level_keeps c.args.level c.in-Array.items is keeps) c.item.ensures.keeps

pub returns-in-Array-clause-stops : goal.returns-in-Array-clause-stops
returns-in-Array-clause-stops c =
    let is : c.args.level.holder ≡ holder.Array c.in-Array.items = search rules in
    on_err c.item.result (λ r stops. array_level_stops c.args.level c.in-Array.items is stops) c.item.ensures.stops

pub returns-in_ok-push-in-Typed-clause-rest : goal.returns-in_ok-push-in-Typed-clause-rest
returns-in_ok-push-in-Typed-clause-rest c =
    let is : c.args.level.holder ≡ holder.Typed = search rules in
    on_ok c.object.result
    (λ value. typed_taken _ _ c.args.level is (record { levels = c.in_ok-push-in-Typed.ensures.level; bytes = c.push-in-Typed.ensures.bytes; tokens = refl }) value) c.object.ensures.rest

pub returns-in_ok-push-in-Typed-clause-keeps : goal.returns-in_ok-push-in-Typed-clause-keeps
returns-in_ok-push-in-Typed-clause-keeps c =
    let is : c.args.level.holder ≡ holder.Typed = search rules in
    on_ok c.object.result (λ value. level_keeps _ c.args.level is
    (record { limits = c.push-in-Typed.ensures.limits; levels = c.in_ok-push-in-Typed.ensures.level; bytes = c.push-in-Typed.ensures.bytes }) refl value) c.object.ensures.keeps

pub returns-in_ok-push-in-Typed-clause-stops : goal.returns-in_ok-push-in-Typed-clause-stops
returns-in_ok-push-in-Typed-clause-stops c =
    let is : c.args.level.holder ≡ holder.Typed = search rules in
    on_err c.object.result (λ r stops. level_stops _ c.args.level is
    (record { limits = c.push-in-Typed.ensures.limits; levels = c.in_ok-push-in-Typed.ensures.level; bytes = c.push-in-Typed.ensures.bytes }) refl r stops) c.object.ensures.stops
