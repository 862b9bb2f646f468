use Rattle.std.proofs.Common.{◌≡◌, ◌*◌, ◌^◌}
use Rattle.values_from_json.proofs.decimal.without_zeros.Given as goal

abbrev pub invariant-loop : goal.invariant-loop
invariant-loop l = l.fn.number ≡ l.left * 10 ^ l.counter
