use Rattle.json.proofs.Printed.Plain.{plain_from_lanes}
use Rattle.bson_to_json.proofs.plain.are_plain.Goals as goal

pub returns : goal.returns
returns g c = plain_from_lanes c.args.bytes.now c.args.at g.row.N c.requires.within c.requires.few c.type_inv.bytes
