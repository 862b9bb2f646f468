use Rattle.std.proofs.Common.{◌≡◌, ◌+◌, ◌≤◌, fold, take}
use Rattle.dump_io.proofs.input.Placing.{position_step}
use Rattle.dump_io.specs.declared.input.position.Position.{Position}
use Rattle.dump_io.proofs.input.position.Position.over.Given as goal

-- the place after the bytes so far
abbrev pub invariant-loop-byte : goal.invariant-loop-byte
invariant-loop-byte l =
    let here : Position = record { line = l.line; column = l.column } in
    (here ≡ fold position_step l.fn.self (take l.byte-index l.bytes)) × (l.line ≤ l.fn.self.line + l.byte-index) × (l.column ≤ l.fn.self.column + l.byte-index)
