use Rattle.raw_tree.proofs.walk.Frames.{taken_stop}
use Rattle.raw_tree.proofs.walk.element.next_element.Goals as goal

pub returns-in-Some-Err : goal.returns-in-Some-Err
returns-in-Some-Err c = taken_stop c.args.elements.now c.next.new.self c.in-Some-Err.field-0-0 (rw c.in-Some-Err.field-0-is at c.in-Some-Err.ensures.steps)
