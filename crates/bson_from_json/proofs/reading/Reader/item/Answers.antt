use Rattle.std.proofs.Common.{◌≡◌, ◌∙◌, ◌+◌, ◌++◌, ◌∷◌, [], ℕ, ap, arith, inr, refl, rules}
use Rattle.bson_from_json.specs.Levels.{array_level}
use Rattle.bson_from_json.proofs.Moments.{end_taken, item_taken, on_ok}
use Rattle.bson_from_json.proofs.Keeps.{array_end_keeps, array_end_stops, each_err, item_keeps, item_stops, level_lacks, no_item_token, on_err}
use Rattle.json.specs.Token.{Token}
use Rattle.values_from_json.specs.Taken.{LacksToken}
use Rattle.bson_from_json.proofs.reading.Reader.item.Goals as goal

pub returns-in-EndArray-clause-rest : goal.returns-in-EndArray-clause-rest
returns-in-EndArray-clause-rest c = on_ok c.close.result
    (λ closes. end_taken _ _ (array_level c.args.items c.args.start) (record { levels = refl; bytes = refl; tokens = refl }) (search rules) (inr refl) closes) c.close.ensures.rest

pub returns-clause-rest : goal.returns-clause-rest
returns-clause-rest c =
    let more : c.in_ok-more.more ≡ c.args.items + 1 = grind arith in
    let levels = c.in_ok-push.ensures.level ∙ ap (λ (m : ℕ). c.args.self.now.document.levels.items ++ array_level m c.args.start ∷ []) more in
    on_ok c.value.result
    (λ value. item_taken _ _ c.args.items c.args.start (record { levels = levels; bytes = c.push.ensures.bytes; tokens = refl }) c.in_ok-token.ensures.some (search rules) value)
    c.value.ensures.rest

pub returns-in_err-token-clause-stops : goal.returns-in_err-token-clause-stops
returns-in_err-token-clause-stops c = each_err c.from_residual.result (λ r. level_lacks r (no_item_token c.args.items c.in_err-token.ensures.none))

pub returns-in-EndArray-clause-keeps : goal.returns-in-EndArray-clause-keeps
returns-in-EndArray-clause-keeps c = on_ok c.close.result (λ closes. array_end_keeps _ _ c.args.items c.args.start refl (search rules) closes) c.close.ensures.keeps

pub returns-in-EndArray-clause-stops : goal.returns-in-EndArray-clause-stops
returns-in-EndArray-clause-stops c = on_err c.close.result (λ r stops. array_end_stops r c.args.items c.args.start refl (search rules) stops) c.close.ensures.stops

pub returns-clause-keeps : goal.returns-clause-keeps
returns-clause-keeps c =
    let more : c.in_ok-more.more ≡ c.args.items + 1 = grind arith in
    let levels = c.in_ok-push.ensures.level ∙ ap (λ (m : ℕ). c.args.self.now.document.levels.items ++ array_level m c.args.start ∷ []) more in
    let end : LacksToken c.args.self.now.source.tokens Token.end_array = search rules in
    on_ok c.value.result (λ value. item_keeps _ _ c.args.items c.args.start
    (record { limits = c.push.ensures.limits; levels = levels; bytes = c.push.ensures.bytes }) c.in_ok-token.ensures.some (search rules) end value) c.value.ensures.keeps

pub returns-clause-stops : goal.returns-clause-stops
returns-clause-stops c =
    let more : c.in_ok-more.more ≡ c.args.items + 1 = grind arith in
    let levels = c.in_ok-push.ensures.level ∙ ap (λ (m : ℕ). c.args.self.now.document.levels.items ++ array_level m c.args.start ∷ []) more in
    let end : LacksToken c.args.self.now.source.tokens Token.end_array = search rules in
    on_err c.value.result (λ r stops. item_stops r c.args.items c.args.start
    (record { limits = c.push.ensures.limits; levels = levels; bytes = c.push.ensures.bytes }) c.in_ok-token.ensures.some (search rules) end stops) c.value.ensures.stops
