use Rattle.std.proofs.Common.{ap, arith, length}
use Rattle.dump_commands.proofs.elements.Leaving.{within_at}
use Rattle.dump_commands.proofs.elements.Numbering.{count}
use Rattle.dump_commands.proofs.elements.changes.shown.listed.Goals as goal

pub path_shown-requires-clause-within : goal.path_shown-requires-clause-within
path_shown-requires-clause-within c =
    let steps = c.args.numbers.now.steps.items in
    omega (arith, ap length c.deref.ensures.value, count steps, within_at _ c.args.paths.now c.loop-path.path-index (omega (arith, count steps)) c.requires.within)
