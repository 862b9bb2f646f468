use Rattle.std.proofs.Common.{◌≡◌, ◌^◌, min, take}
use Rattle.std.specs.Str.Parse.{digits_value}
use Rattle.values_from_json.proofs.decimal.size_of.Given as goal

abbrev pub invariant-loop-byte : goal.invariant-loop-byte
invariant-loop-byte l = l.size ≡ min (digits_value 10 (take l.byte-index l.digits)) (2 ^ 70)
