use Rattle.std.proofs.Common.{arith}
use Rattle.raw_tree.proofs.walk.Walk.pass.Goals as goal

pub overflow_add-level : goal.overflow_add-level
overflow_add-level c =
    let is = c.requires in
    omega (arith, is.ends, is.number_within, c.args.self.now.document.envelope.header.fits.sfits)
