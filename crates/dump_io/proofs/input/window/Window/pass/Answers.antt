use Rattle.std.proofs.Common.{rules}
use Rattle.dump_io.proofs.input.Ahead.{passed_ahead, passed_within}
use Rattle.dump_io.proofs.input.window.Window.pass.Goals as goal

pub returns-clause-passed : goal.returns-clause-passed
returns-clause-passed c =
    let w = c.args.self.now in
    (passed_within w.at w.len c.args.count w.room.items c.requires.1 c.requires.0, passed_ahead w.at w.len c.args.count w.room.items c.requires.1, search rules)
