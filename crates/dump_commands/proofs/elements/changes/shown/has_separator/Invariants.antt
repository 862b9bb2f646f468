use Rattle.std.proofs.Common.{◌≡◌, drop}
use Rattle.std.specs.List.{list_any}
use Rattle.dump_commands.specs.elements.Changes.{is_separator}
use Rattle.dump_commands.proofs.elements.changes.shown.has_separator.Given as goal

-- none so far is one
abbrev pub invariant-loop-byte : goal.invariant-loop-byte
invariant-loop-byte l = list_any is_separator l.bytes ≡ list_any is_separator (drop l.byte-index l.bytes)
