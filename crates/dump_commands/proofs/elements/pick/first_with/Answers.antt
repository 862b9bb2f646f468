use Rattle.raw_view.specs.Document.{bytes_of}
use Rattle.dump_commands.proofs.elements.Picked.{fault_told, first_told}
use Rattle.dump_commands.proofs.elements.pick.first_with.Goals as goal

pub returns-in-Ok : goal.returns-in-Ok
returns-in-Ok c = first_told (bytes_of c.args.document) c.args.key.now _ (rw c.in-Ok.is at c.get_element.ensures.found)

pub returns-in-Err : goal.returns-in-Err
returns-in-Err c = fault_told (bytes_of c.args.document) c.args.key.now _ (rw c.in-Err.is at c.get_element.ensures.found)
