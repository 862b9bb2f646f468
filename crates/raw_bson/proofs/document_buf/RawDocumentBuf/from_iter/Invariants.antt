use Rattle.raw_bson.specs.Append.{HoldsFrames}
use Rattle.raw_bson.specs.Fills.{TakesEach, TakesPair, empty_document, frames_of_pairs}
use Rattle.raw_bson.proofs.document_buf.RawDocumentBuf.from_iter.Given as goal

abbrev pub invariant-loop-key : goal.invariant-loop-key
invariant-loop-key g l = TakesEach TakesPair empty_document l.yielded l.document × HoldsFrames l.document (frames_of_pairs l.yielded)
