use Rattle.std.proofs.Common.{◌≡◌, length}
use Rattle.std.specs.List.{list_any}
use Rattle.dump_commands.specs.elements.Row.{needs_quotes}
use Rattle.dump_commands.proofs.elements.row.has_mark.Given as goal

-- a byte of the rest needs quotes if one of all does
abbrev pub invariant-bytes : goal.invariant-bytes
invariant-bytes l = list_any needs_quotes l.rest ≡ list_any needs_quotes l.fn.text

abbrev pub decreases-bytes : goal.decreases-bytes
decreases-bytes l = length l.rest
