use Rattle.std.proofs.Common.{◌≡◌, take}
use Rattle.values_from_json.specs.Place.{line_feeds}
use Rattle.values_from_json.proofs.place.count_line_feeds.Given as goal

abbrev pub invariant-loop-byte : goal.invariant-loop-byte
invariant-loop-byte l = l.count ≡ line_feeds (take l.byte-index l.text)
