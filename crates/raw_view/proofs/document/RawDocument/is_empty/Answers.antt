use Rattle.std.proofs.Common.{ap, length}
use Rattle.std.proofs.lemmas.Bool.{eq-eqb, eqb-true}
use Rattle.raw_view.specs.Document.{bytes_of}
use Rattle.raw_view.proofs.Values.ItemSteps.{five_is_empty, empty_is_five}
use Rattle.raw_view.proofs.document.RawDocument.is_empty.Goals as goal

pub returns-clause-no_item : goal.returns-clause-no_item
returns-clause-no_item c =
    let b = bytes_of c.args.self in
    let size = ap length c.as_bytes.ensures.bytes in
    (λ t. five_is_empty b c.args.self.envelope (eqb-true _ _ (rw size at t)), λ a. rw size (eq-eqb _ _ (empty_is_five b c.args.self.envelope a)))
