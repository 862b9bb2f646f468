use Rattle.raw_tree.proofs.reader.OneWay.{value_one_way}
use Rattle.raw_tree.proofs.reader.bson_from_raw.Goals as goal

pub returns-in-None-clause-one_reading : goal.returns-in-None-clause-one_reading
returns-in-None-clause-one_reading c = value_one_way c.args.value

pub returns-in_err-read_all-in-Some-clause-one_reading : goal.returns-in_err-read_all-in-Some-clause-one_reading
returns-in_err-read_all-in-Some-clause-one_reading c = value_one_way c.args.value

pub returns-in_ok-read_all-in-Some-clause-one_reading : goal.returns-in_ok-read_all-in-Some-clause-one_reading
returns-in_ok-read_all-in-Some-clause-one_reading c = value_one_way c.args.value
