use Rattle.std.proofs.Common.{◌≡◌, ◌≢◌, ◌∷◌, ◌++◌, ◌∙◌, [], List, ℕ, ap, length, rules, arith}
use Rattle.std.proofs.lemmas.Grind.{common_steps}
use Rattle.raw_view.proofs.Frames.Fronts.{key_stop, tag_stop, payload_stop}
use Rattle.raw_view.proofs.front.any_front.Goals as goal

pub returns-in-Err-clause-stop : goal.returns-in-Err-clause-stop
returns-in-Err-clause-stop c =
    let spelled : c.args.rest.now ≡ c.in-Some.tag.now ∷ c.in-Some.behind.now = search (rules, common_steps) in
    let some : c.in-Some.behind.now ≢ [] = λ none. c.requires.more (ap length spelled ∙ ap (λ (x : List ℕ). length (c.in-Some.tag.now ∷ x)) none) in
    key_stop _ _ _ c.in-Err.kind spelled some (c.requires.ends (grind (arith, common_steps))) c.in-Err.ensures.fault

pub returns-in_default-from-clause-stop : goal.returns-in_default-from-clause-stop
returns-in_default-from-clause-stop c =
    let text = c.in-Ok.ensures.found in
    let spelled : c.args.rest.now ≡ c.in-Some.tag.now ∷ (c.in-Ok.parts.0.now ++ 0 ∷ c.in-Ok.parts.1.now) = search (rules, common_steps) in
    rw (c.malformed_at.ensures.kind, c.malformed_at.ensures.key) (tag_stop _ _ _ _ spelled text.1 text.2 c.in_default-from.ensures.cases)

pub returns-in-Err-front_len-clause-stop : goal.returns-in-Err-front_len-clause-stop
returns-in-Err-front_len-clause-stop c =
    let text = c.in-Ok.ensures.found in
    let spelled : c.args.rest.now ≡ c.in-Some.tag.now ∷ (c.in-Ok.parts.0.now ++ 0 ∷ c.in-Ok.parts.1.now) = search (rules, common_steps) in
    let fault = c.in-Err-front_len.ensures in
    payload_stop _ _ _ _ c.in-Some-from.kind c.in-Err-front_len.kind spelled text.1 text.2 c.in-Some-from.ensures.cases fault.none fault.fault
