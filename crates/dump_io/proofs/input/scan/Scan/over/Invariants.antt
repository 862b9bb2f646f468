use Rattle.std.proofs.Common.{◌≡◌, fold, take}
use Rattle.dump_io.specs.input.Scans.{IsOpen, step}
use Rattle.dump_io.proofs.input.scan.Scan.over.Given as goal

-- this is how far the text comes, and it may go on
abbrev pub invariant-loop-index : goal.invariant-loop-index
invariant-loop-index l = (l.scan ≡ fold step l.fn.self (take l.index l.bytes)) × IsOpen l.scan
