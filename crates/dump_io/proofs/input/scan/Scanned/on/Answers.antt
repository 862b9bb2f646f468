use Rattle.std.proofs.Common.{◌≡◌, ◌-◌, ◌≤◌, arith, drop, length, length-drop, min, take}
use Rattle.std.proofs.lemmas.List.{length-take}
use Rattle.dump_io.proofs.input.Scanning.{scans_on}
use Rattle.dump_io.proofs.input.scan.Scanned.on.Goals as goal

pub returns-clause-scans : goal.returns-clause-scans
returns-clause-scans c =
    let f = c.args.self in
    let m = c.over-more.result in
    let ahead = c.args.ahead.now in
    let n = c.min-end.result - f.len in
    let size : length (take n (drop f.len ahead)) ≡ min n (length (drop f.len ahead)) = length-take n (drop f.len ahead) in
    let rest : length (drop f.len ahead) ≡ length ahead - f.len = length-drop f.len ahead in
    let within : m.len ≤ length (take n (drop f.len ahead)) = c.over-more.ensures.within in
    scans_on ahead f m n c.requires.0 (omega arith) (omega arith) (omega (arith, c.min-end.ensures, c.requires.2, c.requires.3)) c.over-more.ensures.scan c.over-more.ensures.last
