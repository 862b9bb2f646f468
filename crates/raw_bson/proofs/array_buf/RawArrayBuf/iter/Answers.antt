use Rattle.raw_bson.proofs.array_buf.RawArrayBuf.iter.Goals as goal

pub returns-clause-items : goal.returns-clause-items
returns-clause-items c = rw c.as_ref.ensures at c.iter.ensures.items
