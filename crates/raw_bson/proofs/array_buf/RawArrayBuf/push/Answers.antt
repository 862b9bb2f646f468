use Rattle.raw_bson.proofs.array_buf.RawArrayBuf.push.Goals as goal

pub returns-clause-walk : goal.returns-clause-walk
returns-clause-walk c = rw (← c.self.view_is) (rw c.format.ensures.text at c.in_ok-append.ensures.walk)

pub returns-clause-adds : goal.returns-clause-adds
returns-clause-adds c = rw (← c.self.view_is) (rw c.format.ensures.text at c.in_ok-append.ensures.adds)
