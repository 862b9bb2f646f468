use Rattle.raw_bson.proofs.document_buf.RawDocumentBuf.iter.Goals as goal

pub returns-clause-items : goal.returns-clause-items
returns-clause-items c = rw c.as_ref.ensures at c.iter.ensures.items
