use Rattle.std.proofs.Common.{◌≡◌, ◌≤◌, ◌+◌, ◌*◌, ◌^◌, take}
use Rattle.std.specs.Str.Parse.{digits_value_after}
use Rattle.values_from_json.proofs.decimal.Kept.with_digits.Given as goal

abbrev pub invariant-loop-byte : goal.invariant-loop-byte
invariant-loop-byte l =
    (digits_value_after 10 (l.fn.self.coefficient * 10 ^ l.fn.self.zeros) (take l.byte-index l.digits) ≡ l.kept.coefficient * 10 ^ l.kept.zeros)
    × (l.kept.zeros ≤ l.fn.self.zeros + l.byte-index)
