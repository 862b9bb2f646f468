use Rattle.std.proofs.Common.{◌≡◌, ◌++◌, flat_map}
use Rattle.dump_io.specs.lines.Quoting.{shown_char}
use Rattle.dump_io.proofs.lines.quote.push_chars.Given as goal

-- each character so far is after the text
abbrev pub invariant-loop-char : goal.invariant-loop-char
invariant-loop-char l = l.text.items ≡ l.initial.text.items ++ flat_map shown_char l.yielded
