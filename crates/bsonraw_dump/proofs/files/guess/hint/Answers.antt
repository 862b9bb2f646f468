use Rattle.bsonraw_dump.proofs.files.Guessing.{looks_hint, opens_none}
use Rattle.bsonraw_dump.proofs.files.guess.hint.Goals as goal

pub returns-else-may_be_document-clause-hints : goal.returns-else-may_be_document-clause-hints
returns-else-may_be_document-clause-hints c =
    looks_hint c.args.most c.args.read.now c.front-front.result.now c.look.result c.front-front.ensures (λ m. c.if-may_be_document.ensures m) c.look.ensures

pub returns-else-may_be_document-clause-none : goal.returns-else-may_be_document-clause-none
returns-else-may_be_document-clause-none c d r more well split =
    absurd (opens_none c.args.most c.args.read.now c.front-front.result.now d r more c.front-front.ensures (λ m. c.if-may_be_document.ensures m) well split)
