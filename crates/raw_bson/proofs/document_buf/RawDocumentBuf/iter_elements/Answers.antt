use Rattle.raw_bson.proofs.document_buf.RawDocumentBuf.iter_elements.Goals as goal

pub returns-clause-walk : goal.returns-clause-walk
returns-clause-walk c = rw c.as_ref.ensures at c.iter_elements.ensures.walk
