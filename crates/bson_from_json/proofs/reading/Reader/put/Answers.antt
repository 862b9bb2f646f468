use Rattle.bson_from_json.proofs.Keeps.{on_err}
use Rattle.bson_from_json.proofs.reading.Reader.put.Goals as goal

pub returns-clause-refused : goal.returns-clause-refused
returns-clause-refused c = on_err c.put_element.result (λ r over. record { refused = over }) c.put_element.ensures.refused
