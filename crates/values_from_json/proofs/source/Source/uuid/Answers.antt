use Rattle.values_from_json.proofs.Takes.{uuid_taken}
use Rattle.values_from_json.proofs.source.Source.uuid.Goals as goal

pub returns-in-Some-clause-some : goal.returns-in-Some-clause-some
returns-in-Some-clause-some c = uuid_taken c.in_ok-text.ensures.some c.in-Some.ensures
