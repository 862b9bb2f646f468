use Rattle.std.proofs.Common.{arith}
use Rattle.raw_view.proofs.Frames.Payloads.{document_found}
use Rattle.raw_view.proofs.front.payload.document_len.Goals as goal

pub returns-clause-found : goal.returns-clause-found
returns-clause-found c = document_found c.args.rest.now c.in_ok-size.size (λ i. omega (arith, c.type_inv.rest i)) c.in_ok-size.ensures.found (omega arith) (omega arith) c.if-rest-size-ne0.false
