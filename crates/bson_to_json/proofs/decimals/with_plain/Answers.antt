use Rattle.std.proofs.Common.{◌-◌, length, replicate, subst, sym, arith}
use Rattle.std.proofs.lemmas.List.{take-replicate}
use Rattle.bson_to_json.specs.ShortTexts.{Adds}
use Rattle.bson_to_json.proofs.ShortTexts.{adds_both, far_plain}
use Rattle.bson_to_json.proofs.decimals.with_plain.Goals as goal

pub returns : goal.returns
returns c =
    let digits = c.args.digits.now in
    let k = c.args.places - length digits in
    let zeros : Adds c.with-2.result c.with-3.result (replicate k 48) =
    subst (Adds c.with-2.result c.with-3.result) (take-replicate k 5 48 (omega arith)) c.with-3.ensures in
    subst (Adds c.args.text c.with-4.result) (sym (far_plain digits c.args.places c.if-places-eq0.false c.if-places-digits.false))
    (adds_both c.with-2.ensures (adds_both zeros c.with-4.ensures))
