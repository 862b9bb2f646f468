use Rattle.std.proofs.Common.{arith}
use Rattle.raw_tree.proofs.Common.{bytes_of}
use Rattle.raw_tree.proofs.validator.OneBreach.{breach_found, most, never_too_deep}
use Rattle.raw_tree.proofs.walk.Rooms.{numbers_of}
use Rattle.raw_tree.proofs.validator.validate.Goals as goal

pub returns-in_default-clause-breach : goal.returns-in_default-clause-breach
returns-in_default-clause-breach c = (most, rw c.in_default.is at c.in_ok-found.ensures.found)

pub unreachable-requires : goal.unreachable-requires
unreachable-requires c =
    never_too_deep most (bytes_of c.args.document) c.in-Some.found c.args.document.envelope (omega arith) (rw c.in-Some.is at c.in_ok-found.ensures.found) c.in_default-cause.is

pub returns-clause-breach : goal.returns-clause-breach
returns-clause-breach c =
    rw (c.in_ok-path.ensures.numbers, c.deref.ensures.value, numbers_of c.in-Some.found.place.path.items)
    (breach_found most (bytes_of c.args.document) c.in-Some.found c.in-Some-cause.cause (rw c.in-Some.is at c.in_ok-found.ensures.found) c.in-Some-cause.is)
