use Rattle.dump_commands.proofs.Endings.{making_made, nothing_made}
use Rattle.dump_commands.proofs.command.Command.writes_documents.Goals as goal

pub returns-in-Prints : goal.returns-in-Prints
returns-in-Prints c = nothing_made c.args.self c.in-Prints.is

pub returns-in-Writes : goal.returns-in-Writes
returns-in-Writes c = making_made c.args.self c.in-Writes.making c.is_bson.result c.in-Writes.is c.is_bson.ensures
