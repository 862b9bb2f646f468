use Rattle.std.proofs.Common.{rules, ◌≡◌, length, take, arith}
use Rattle.bson_to_json.proofs.ShortTexts.{whole_taken}
use Rattle.bson_to_json.proofs.short_text.ShortText.with.Goals as goal

pub returns : goal.returns
returns c =
    let text = c.args.self in
    let a = c.split_at_mut-room.result.0.now in
    let b = c.copy_from_slice.new.self in
    let few : length a ≡ text.len = search rules in
    let front : a ≡ take text.len text.bytes = search rules in
    let same : b ≡ c.args.more.now = search rules in
    let size : length b ≡ length c.args.more.now = search rules in
    record { put = λ _. whole_taken a b c.split_at_mut-front.result.1.now (take text.len text.bytes) c.args.more.now _ (omega (arith, few, size)) front same }
