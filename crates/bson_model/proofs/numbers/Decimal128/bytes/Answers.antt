use Rattle.bson_model.proofs.numbers.Decimal128.bytes.Goals as goal

pub returns-clause-in_range : goal.returns-clause-in_range
returns-clause-in_range c = (c.well_formed.0.1.1.0.1.0.1, c.attest_bytes.ensures)
