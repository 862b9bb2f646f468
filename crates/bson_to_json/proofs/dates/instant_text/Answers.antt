use Rattle.bson_to_json.proofs.Common.{HasInstantText, IsInstantText, length-append, second_text}
use Rattle.std.proofs.Common.{rules, ◌≡◌, ◌++◌, ◌/◌, ◌%◌, codes, length, ap, subst, sym, arith, ℤ, pos, ◌+ℤ◌, unsigned_abs, w64, to_z, of_z}
use Rattle.bson_to_json.specs.ShortTexts.{short_bytes}
use Rattle.bson_to_json.proofs.Days.{no_fraction, some_fraction}
use Rattle.bson_to_json.proofs.Days as days
use Rattle.bson_to_json.proofs.ShortTexts.{adds_both, begun}
use Rattle.bson_to_json.proofs.dates.instant_text.Goals as goal

pub returns-in-0 : goal.returns-in-0
returns-in-0 c =
    let z = c.args.millis in
    let since = c.since_first_day-since.result in
    let d = c.from_days_since_min-date.result in
    let within : HasInstantText z = search rules in
    let same : to_z w64 (of_z w64 z) ≡ z = search rules in
    let behind_first : z +ℤ pos 377_705_116_800_000 ≡ pos since = subst (λ (y : ℤ). y +ℤ pos 377_705_116_800_000 ≡ pos since) same c.since_first_day-since.ensures in
    let front : c.seconds-front.result ≡ second_text (unsigned_abs d.year) d.month d.day (since % 86400000 / 1000) = first_of (search rules, cc) in
    let size : length c.seconds-front.result ≡ 19 = ap length front in
    let behind = codes "Z" in
    let text : short_bytes c.with.result ≡ c.seconds-front.result ++ behind =
    begun (c.seconds-front.result ++ behind) c.new.ensures (adds_both c.with-whole.ensures c.with.ensures) (omega (arith, size, length-append c.seconds-front.result behind)) in
    subst (IsInstantText z) (sym text)
    (days.instant_text z since d c.seconds-front.result behind within behind_first c.from_days_since_min-date.ensures front (no_fraction (since % 1000) c.in-0.is))

pub returns-in_default : goal.returns-in_default
returns-in_default c =
    let z = c.args.millis in
    let since = c.since_first_day-since.result in
    let d = c.from_days_since_min-date.result in
    let within : HasInstantText z = search rules in
    let same : to_z w64 (of_z w64 z) ≡ z = search rules in
    let behind_first : z +ℤ pos 377_705_116_800_000 ≡ pos since = subst (λ (y : ℤ). y +ℤ pos 377_705_116_800_000 ≡ pos since) same c.since_first_day-since.ensures in
    let front : c.seconds-front.result ≡ second_text (unsigned_abs d.year) d.month d.day (since % 86400000 / 1000) = first_of (search rules, cc) in
    let size : length c.seconds-front.result ≡ 19 = ap length front in
    let four : length c.fraction.result ≡ 4 = ap length c.fraction.ensures in
    let some : ¬ (since % 1000 ≡ 0) = search rules in
    let behind = c.fraction.result ++ codes "Z" in
    let text : short_bytes c.with-in_default-2.result ≡ c.seconds-front.result ++ behind =
    begun (c.seconds-front.result ++ behind) c.new.ensures (adds_both c.with-whole.ensures (adds_both c.with-in_default.ensures c.with-in_default-2.ensures))
    (omega (arith, size, four, length-append c.seconds-front.result behind, length-append c.fraction.result (codes "Z"))) in
    subst (IsInstantText z) (sym text)
    (days.instant_text z since d c.seconds-front.result behind within behind_first c.from_days_since_min-date.ensures front
    (some_fraction (since % 1000) c.fraction.result some c.fraction.ensures))
