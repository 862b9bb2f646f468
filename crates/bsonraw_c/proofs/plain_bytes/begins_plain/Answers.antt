use Rattle.std.proofs.lemmas.Bool.{eqb-true}
use Rattle.bsonraw_c.proofs.PlainBytes.{ends_of, plain_all}
use Rattle.bsonraw_c.proofs.plain_bytes.begins_plain.Goals as goal

pub returns-clause-nul_free : goal.returns-clause-nul_free
returns-clause-nul_free g c is = (plain_all g.row.N c.args.bytes.now c.requires.few c.requires.long (eqb-true (ends_of g.row.N c.args.bytes.now) 0 is)).0

pub returns-clause-ascii : goal.returns-clause-ascii
returns-clause-ascii g c is = (plain_all g.row.N c.args.bytes.now c.requires.few c.requires.long (eqb-true (ends_of g.row.N c.args.bytes.now) 0 is)).1
