use Rattle.std.proofs.Common.{◌-◌, ◌^◌, arith}
use Rattle.raw_tree.proofs.reader.Limited.{told_of_all}
use Rattle.raw_tree.proofs.reader.read_all.Goals as goal

pub returns : goal.returns
returns c =
    let told = told_of_all (2 ^ 64 - 1) c.args.nested (omega arith) c.read.result c.read.new.steps c.read.ensures in
    record { tree = told.0; fault = told.1; count = told.2 }
