use Rattle.std.proofs.Common.{arith}
use Rattle.raw_view.proofs.Frames.Payloads.{string_at}
use Rattle.raw_view.proofs.front.payload.front_string_len.Goals as goal

pub returns-clause-found : goal.returns-clause-found
returns-clause-found c = string_at c.args.rest.now c.in_ok-declared.declared c.in_ok-declared.ensures.found c.if-declared-eq0.false (omega arith) c.if-rest-size-ne0.false
