use Rattle.raw_bson.proofs.document_buf.RawDocumentBuf.append_ref.Goals as goal

pub returns-clause-walk : goal.returns-clause-walk
returns-clause-walk c = rw (← c.self.view_is) c.append_value.ensures.walk

pub returns-clause-adds : goal.returns-clause-adds
returns-clause-adds c = rw (← c.self.view_is) c.append_value.ensures.adds
