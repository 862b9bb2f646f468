use Rattle.std.proofs.Common.{◌≡◌, true, ap, sym, ◌∙◌}
use Rattle.std.specs.Str.{bytes_eq}
use Rattle.bson_model.specs.Keys.{has_bytes}
use Rattle.bson_model.proofs.Places.{first_at, nowhere}
use Rattle.bson_model.proofs.keys.index_among.Goals as goal

pub returns-then-eq : goal.returns-then-eq
returns-then-eq c =
    let test = has_bytes c.args.key.now in
    let text = c.index-texts-index.result in
    let same : test text ≡ true = ap (λ bytes. bytes_eq c.args.key.now bytes) (sym c.as_str.ensures.value) ∙ sym c.eq.ensures ∙ c.if-eq.true in
    sym (first_at test c.args.texts.now c.loop-index.index text c.loop-index-test.true c.loop-index.invariant (ap test (sym c.index-texts-index.is) ∙ same))

pub returns : goal.returns
returns c = sym (nowhere (has_bytes c.args.key.now) c.args.texts.now c.loop-index.index c.loop-index-test.false c.loop-index.invariant)
