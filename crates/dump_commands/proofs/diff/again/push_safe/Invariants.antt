use Rattle.std.proofs.Common.{◌≡◌, ◌++◌, flat_map}
use Rattle.dump_commands.specs.diff.Again.{safe_char}
use Rattle.dump_commands.proofs.diff.again.push_safe.Given as goal

-- each character so far is after the text
abbrev pub invariant-loop-char : goal.invariant-loop-char
invariant-loop-char l = l.text.items ≡ l.initial.text.items ++ flat_map safe_char l.yielded
