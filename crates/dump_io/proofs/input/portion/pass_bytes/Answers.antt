use Rattle.std.proofs.Common.{rules, ◌≡◌, ◌≤◌, ap, arith, false, length, true}
use Rattle.dump_io.specs.input.Reading.{ahead_of}
use Rattle.dump_io.proofs.input.Ahead.{nil_of_none}
use Rattle.dump_io.proofs.lines.Cases.{if_err_reading}
use Rattle.dump_io.proofs.input.Portioning.{goes_none, goes_on, goes_past}
use Rattle.dump_io.proofs.input.portion.pass_bytes.Goals as goal

pub bytes-init : goal.bytes-init
bytes-init g c =
    let (goes, none) = goes_none (g.R.Read.remaining c.args.reader.now) c.args.window.now c.requires in
    (goes, omega (arith, none))

pub look-requires : goal.look-requires
look-requires g c = c.bytes.invariant.0.window

pub returns-in_err-look-clause-fails : goal.returns-in_err-look-clause-fails
returns-in_err-look-clause-fails g c =
    let stays = c.in_err-look.ensures.fails in
    let (on, same) = goes_on c.look.new.self c.bytes.invariant.0 stays.looks stays.window stays.offset in
    if_err_reading c.from_residual.result _ (on, omega (arith, same, c.bytes.invariant.1))

pub returns-then-not-branch-clause-passed : goal.returns-then-not-branch-clause-passed
returns-then-not-branch-clause-passed g c =
    let sees = c.in_ok-look.ensures.looks in
    let no : c.in_ok-look.field-0 ≡ false = search rules in
    let (few, end) = sees.ends no in
    let (on, same) = goes_on c.look.new.self c.bytes.invariant.0 sees.looks sees.window sees.offset in
    (on, omega (arith, same, c.bytes.invariant.1), λ less. (nil_of_none (ahead_of c.look.new.self) (omega (arith, few)), end))

pub pass-requires : goal.pass-requires
pass-requires g c =
    let size : length c.ahead.result.now ≡ length (ahead_of c.look.new.self) = ap length c.ahead.ensures in
    (c.in_ok-look.ensures.looks.window, omega (arith, c.min-part.ensures, size))

pub bytes-smaller : goal.bytes-smaller
bytes-smaller g c =
    let yes' : c.in_ok-look.field-0 ≡ true = search rules in
    let some : 1 ≤ length (ahead_of c.look.new.self) = c.in_ok-look.ensures.looks.there yes' in
    let size : length c.ahead.result.now ≡ length (ahead_of c.look.new.self) = ap length c.ahead.ensures in
    omega (arith, c.min-part.ensures, size, some, c.bytes-test.true)

pub bytes-preserved : goal.bytes-preserved
bytes-preserved g c =
    let sees = c.in_ok-look.ensures.looks in
    let size : length c.ahead.result.now ≡ length (ahead_of c.look.new.self) = ap length c.ahead.ensures in
    let passed = c.in_ok-pass.ensures.passed in
    let (on, same) = goes_on c.look.new.self c.bytes.invariant.0 sees.looks sees.window sees.offset in
    let (past, sum) = goes_past c.pass.new.self on c.min-part.result (omega (arith, c.min-part.ensures, size)) passed.0 passed.1 passed.2 in
    (past, omega (arith, sum, same, c.bytes.invariant.1, c.min-part.ensures))

pub returns-clause-passed : goal.returns-clause-passed
returns-clause-passed g c =
    let (goes, sum) = c.bytes.invariant in
    (goes, omega (arith, sum), λ less. absurd (omega (arith, sum, less, c.bytes-test.false)))
