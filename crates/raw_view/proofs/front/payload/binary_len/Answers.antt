use Rattle.std.proofs.Common.{arith}
use Rattle.raw_view.proofs.Frames.Payloads.{binary_found}
use Rattle.raw_view.proofs.front.payload.binary_len.Goals as goal

pub returns-clause-found : goal.returns-clause-found
returns-clause-found c = binary_found c.args.rest.now c.in_ok-size.field-0 c.in_ok-size.ensures.found (omega arith)
