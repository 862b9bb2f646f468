use Rattle.std.proofs.Common.{◌≡◌, false, [], ◌∷◌, ◌++◌, length, sym, ap, ◌∙◌, append_assoc, arith}
use Rattle.std.specs.String.{string_bytes}
use Rattle.bson_model.specs.Keys.{is_among}
use Rattle.bson_model.proofs.Places.{new_behind}
use Rattle.bson_model.proofs.keys.hashed.Goals as goal

pub loop-text-preserved : goal.loop-text-preserved
loop-text-preserved c =
    let set = c.loop-text.set.keys in
    let text = c.in-Some.text in
    let rest = c.next.new.self.rest.items in
    let more : c.loop-text.text-iterator.rest.items ≡ text ∷ rest = c.in-Some.ensures.steps.0 in
    let all : set ++ text ∷ rest ≡ c.args.texts.items = ap (λ l. set ++ l) (sym more) ∙ c.loop-text.invariant.0 in
    let new : is_among (string_bytes text) set ≡ false = new_behind set text rest (rw all c.requires.distinct) in
    let keys : c.insert.new.self.keys ≡ set ++ text ∷ [] = rw new at c.in-Ok.ensures.keys in
    (rw (keys, append_assoc set (text ∷ []) rest) all, omega (arith, c.insert.ensures.spare, c.loop-text.invariant.1, ap length more))
