use Rattle.std.proofs.Common.{subst}
use Rattle.bsonraw_c.specs.Build.{IsCText}
use Rattle.bsonraw_c.proofs.PlainBytes.{plain_more}
use Rattle.bsonraw_c.proofs.plain_bytes.is_long_plain.Goals as goal

pub loop-rest-preserved : goal.loop-rest-preserved
loop-rest-preserved c behind =
    let plain = c.begins_plain.ensures in
    let is = c.if-not-begins_plain.false in
    c.loop-rest.invariant (plain_more 32 c.loop-rest.rest.now (plain.nul_free is, plain.ascii is) (subst IsCText c.split_at.ensures.back behind))

pub returns : goal.returns
returns c is = c.loop-rest.invariant (c.is_plain.ensures is)
