use Rattle.std.proofs.Common.{◌≡◌, ◌++◌, length}
use Rattle.dump_commands.specs.state.Seen.{either}
use Rattle.dump_commands.proofs.state.seen.joined.Given as goal

-- those before, and those of the rest, are all
abbrev pub invariant-flags : goal.invariant-flags
invariant-flags l = l.all.items ++ either l.rest l.left ≡ either l.fn.flags l.fn.seen

abbrev pub decreases-flags : goal.decreases-flags
decreases-flags l = length l.rest
