use Rattle.std.proofs.Common.{rules}
use Rattle.bson_from_json.proofs.Keeps.{on_err, refused_as}
use Rattle.bson_from_json.proofs.Moments.{on_ok, puts_as}
use Rattle.bson_from_json.proofs.reading.Reader.put_binary.Goals as goal

pub returns-clause-puts : goal.returns-clause-puts
returns-clause-puts c = on_ok c.put.result (λ puts. puts_as puts (search rules)) c.put.ensures.puts

pub returns-clause-refused : goal.returns-clause-refused
returns-clause-refused c = on_err c.put.result (λ r over. refused_as over (search rules)) c.put.ensures.refused
