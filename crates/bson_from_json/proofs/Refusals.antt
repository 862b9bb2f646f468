-- What is refused is still refused of more.
use Rattle.std.proofs.Common.{◌≡◌, ◌≤◌, ◌+◌, ℕ, length, ap, subst, arith}
use Rattle.raw_tree.specs.declared.reader.limits.Limits.{Limits}
use Rattle.bson_from_json.specs.Ends.{Exceeds, Refuses}
use Rattle.bson_from_json.specs.declared.unfinished.Unfinished.{Unfinished}
use Rattle.values_from_json.specs.declared.error.JsonReason.{JsonReason}
use Rattle.values_from_json.specs.declared.error.JsonReason.TheVariants as reason

-- what exceeds a limit still does with more levels and bytes
pub exceeds_more : (limits : Limits) (d n d' n' : ℕ) (r : JsonReason) → d ≤ d' → n ≤ n' → Exceeds limits d n r → Exceeds limits d' n' r
exceeds_more limits d n d' n' reason.OutOfMemory deep few over = tt
exceeds_more limits d n d' n' reason.TooManyBytes deep few over = omega (arith, few, over)
exceeds_more limits d n d' n' reason.TooDeep deep few over = omega (arith, deep, over)
exceeds_more limits d n d' n' reason.EndOfText deep few over = absurd over
exceeds_more limits d n d' n' reason.ByteOrderMark deep few over = absurd over
exceeds_more limits d n d' n' reason.ExpectedDocument deep few over = absurd over
exceeds_more limits d n d' n' reason.ExpectedKey deep few over = absurd over
exceeds_more limits d n d' n' reason.ExpectedColon deep few over = absurd over
exceeds_more limits d n d' n' reason.ExpectedComma deep few over = absurd over
exceeds_more limits d n d' n' reason.ExpectedValue deep few over = absurd over
exceeds_more limits d n d' n' reason.TextBehind deep few over = absurd over
exceeds_more limits d n d' n' reason.BadNumber deep few over = absurd over
exceeds_more limits d n d' n' reason.IntegerTooLarge deep few over = absurd over
exceeds_more limits d n d' n' reason.NumberTooLarge deep few over = absurd over
exceeds_more limits d n d' n' reason.ControlCharacter deep few over = absurd over
exceeds_more limits d n d' n' reason.BadEscape deep few over = absurd over
exceeds_more limits d n d' n' reason.LoneSurrogate deep few over = absurd over
exceeds_more limits d n d' n' reason.InteriorNul deep few over = absurd over
exceeds_more limits d n d' n' (reason.Malformed w) deep few over = absurd over
exceeds_more limits d n d' n' reason.InexactDecimal deep few over = absurd over

-- .. after more bytes were written
pub refused_later : (old mid : Unfinished) (before bytes levels : ℕ) (r : JsonReason) → mid.limits ≡ old.limits → mid.levels.items ≡ old.levels.items
    → length mid.bytes.items ≡ length old.bytes.items + before → Refuses mid bytes levels r → Refuses old (before + bytes) levels r
refused_later old mid before bytes levels r same levels_are len over =
    let deep : length mid.levels.items + levels ≤ length old.levels.items + levels = omega (arith, ap length levels_are) in
    let few : length mid.bytes.items + bytes ≤ length old.bytes.items + (before + bytes) = omega (arith, len) in
    exceeds_more old.limits _ _ _ _ r deep few (subst (λ (x : Limits). Exceeds x (length mid.levels.items + levels) (length mid.bytes.items + bytes) r) same over)
