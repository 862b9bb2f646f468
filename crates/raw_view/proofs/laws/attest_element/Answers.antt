use Rattle.raw_view.specs.Frame.ElementSteps.{frame_of}
use Rattle.raw_view.proofs.Frames.Standing.{stands_anywhere}
use Rattle.raw_view.proofs.laws.attest_element.Goals as goal

pub returns : goal.returns
returns c = stands_anywhere (frame_of c.args.element) c.args.element.named (rw c.key-key.ensures at c.key-key.utf8) c.args.element.framed
