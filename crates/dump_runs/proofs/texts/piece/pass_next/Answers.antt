use Rattle.std.proofs.Common.{arith, refl, subst, sym}
use Rattle.dump_io.specs.input.Reading.{ahead_of}
use Rattle.dump_io.proofs.Face.{nothing_goes_on}
use Rattle.dump_runs.specs.texts.Steps.{TellsNoText}
use Rattle.dump_runs.specs.declared.texts.cursor.NextText.{NextText}
use Rattle.dump_runs.proofs.texts.piece.pass_next.Goals as goal

pub pass_astray-requires : goal.pass_astray-requires
pass_astray-requires g c = (c.requires.0, omega arith, nothing_goes_on, omega arith)

pub returns-in-Wrong : goal.returns-in-Wrong
returns-in-Wrong g c =
    let limits = c.args.input.job.limits in
    let told : TellsNoText limits (ahead_of c.args.cursor.now.window) c.args.next 0 0 c.in-Wrong.reason =
    subst (λ (n : NextText). TellsNoText limits (ahead_of c.args.cursor.now.window) n 0 0 c.in-Wrong.reason) (sym c.in-Wrong.is) (refl, refl, refl) in
    c.pass_astray.ensures c.args.next told
