use Rattle.std.proofs.Common.{◌≡◌, take}
use Rattle.values_from_json.specs.Place.{characters}
use Rattle.values_from_json.proofs.place.count_characters.Given as goal

abbrev pub invariant-loop-byte : goal.invariant-loop-byte
invariant-loop-byte l = l.count ≡ characters (take l.byte-index l.text)
