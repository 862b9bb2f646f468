use Rattle.std.proofs.Common.{◌≡◌, ◌≤◌, List, ℕ, Option, length, take}
use Rattle.std.specs.Io.KnownBytes.{Consumes}
use Rattle.dump_io.proofs.input.window.fill.Given as goal

-- the buffer is filled up to `len`
abbrev pub invariant-loop : goal.invariant-loop
invariant-loop g l = record {
  len : length l.buffer ≡ length l.initial.buffer;
  behind : l.front ≤ l.len;
  within : l.len ≤ length l.buffer;
  kept : take l.front l.buffer ≡ take l.front l.initial.buffer;
  is_read : (before : Option (List ℕ)) → Consumes before (g.R.Read.remaining l.initial.reader) (take l.front l.initial.buffer) → Consumes before (g.R.Read.remaining l.reader) (take l.len l.buffer);
}
