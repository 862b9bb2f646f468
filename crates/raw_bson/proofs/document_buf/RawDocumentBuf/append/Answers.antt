use Rattle.raw_bson.proofs.document_buf.RawDocumentBuf.append.Goals as goal

pub returns-clause-walk : goal.returns-clause-walk
returns-clause-walk c = rw c.as_raw_bson_ref.ensures at c.append_ref.ensures.walk

pub returns-clause-adds : goal.returns-clause-adds
returns-clause-adds c = rw c.as_raw_bson_ref.ensures at c.append_ref.ensures.adds
