use Rattle.std.proofs.Common.{◌≤◌, length, ap, sym, ◌∙◌, arith}
use Rattle.std.proofs.lemmas.List.{length-drop}
use Rattle.std.specs.String.{string_bytes}
use Rattle.bson_model.specs.Pairs.{with_pair, keep}
use Rattle.bson_model.proofs.Columns.{behind, kept_more, keys_end, values_end}
use Rattle.bson_model.proofs.parts.Parts.from_repeated.Goals as goal

pub loop-key-init : goal.loop-key-init
loop-key-init g c = (c.into_iter-left.ensures.rest, c.new-parts.ensures)

pub returns-in_default : goal.returns-in_default
returns-in_default g c =
    let ks = c.args.keys.now in
    let vs = c.args.values.items in
    let i = c.loop-key.key-index in
    let none : length vs ≤ i = omega (arith, c.in_default.ensures.len, c.in_default.ensures.cases.0, c.loop-key.left.rest.ok.0, ap length c.loop-key.invariant.0, length-drop i vs) in
    c.loop-key.invariant.1 ∙ ap keep (values_end ks vs i none)

pub loop-key-preserved : goal.loop-key-preserved
loop-key-preserved g c =
    let ks = c.args.keys.now in
    let vs = c.args.values.items in
    let i = c.loop-key.key-index in
    let text = string_bytes c.in_ok-from_str.field-0 in
    let at = behind i vs c.next.new.self.rest.items c.in-Some.value (sym c.loop-key.invariant.0 ∙ c.in-Some.ensures.items) in
    let more = kept_more ks vs i _ text c.in-Some.value c.loop-key-test.true c.in_ok-from_str.ensures.ok at.0 in
    (sym at.1, c.in_ok-put.ensures.put ∙ ap (λ ps. with_pair text c.in-Some.value ps) c.loop-key.invariant.1 ∙ sym more)

pub returns : goal.returns
returns g c =
    c.loop-key.invariant.1 ∙ ap keep (keys_end c.args.keys.now c.args.values.items c.loop-key.key-index c.loop-key-test.false)
