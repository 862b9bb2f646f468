use Rattle.bson_to_json.proofs.Common.{Appends, IsDateJson, IsInstantText, Relaxed, ints, on_ok_weaker}
use Rattle.std.proofs.Common.{rules, ◌≡◌, ◌++◌, codes, sym, subst, refl, arith, ℤ, pos, ◌≤ℤ◌, w64, to_z, of_z}
use Rattle.bson_to_json.specs.declared.style.Format.{Format}
use Rattle.bson_to_json.proofs.Days.{dated}
use Rattle.bson_to_json.proofs.dates.put_date.Goals as goal

pub returns-then-millis-le-LAST_MILLIS : goal.returns-then-millis-le-LAST_MILLIS
returns-then-millis-le-LAST_MILLIS g c =
    let old = g.W.Write.contents c.args.out.now in
    let new = g.W.Write.contents c.put_bytes_between.new.out in
    let z = c.args.millis in
    let instant = c.as_bytes.result.now in
    let is : IsInstantText (to_z w64 (of_z w64 z)) instant = subst (IsInstantText (to_z w64 (of_z w64 z))) (sym c.as_bytes.ensures.bytes) c.instant_text-text.ensures in
    let whole = codes "{\"$date\":\"" ++ (instant ++ codes "\"}") in
    let low : pos 0 ≤ℤ z = first_of (search rules, omega (arith, ints)) in
    let high : z ≤ℤ pos 253402300799999 = first_of (search rules, omega (arith, ints)) in
    let relaxed : c.args.format ≡ Relaxed = search rules in
    let same : to_z w64 (of_z w64 z) ≡ z = search rules in
    let date = dated z whole instant low high (subst (λ (y : ℤ). IsInstantText y instant) same is) refl in
    on_ok_weaker c.put_bytes_between.result (λ (p : Appends old new whole). (whole, subst (λ (f : Format). IsDateJson f z whole) (sym relaxed) date, p)) c.put_bytes_between.ensures
