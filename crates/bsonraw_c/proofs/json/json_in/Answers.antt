use Rattle.std.proofs.Common.{inr, refl}
use Rattle.raw_bson.specs.Document.{bytes_of}
use Rattle.bsonraw_c.proofs.Reporting.{runs_out}
use Rattle.bsonraw_c.proofs.json.json_in.Goals as goal

pub returns-in-Done : goal.returns-in-Done
returns-in-Done c = inr (inr (runs_out c.args.limits (bytes_of c.args.document) c.args.path.now c.fault_in.new.path c.fault_in.new.report c.fault_in.result c.fault_in.ensures c.in-Done.is, refl))
