use Rattle.std.proofs.Common.{drop}
use Rattle.raw_tree.proofs.Common.{bytes_of, frame_of}
use Rattle.raw_view.proofs.Face.{one_frame}
use Rattle.raw_tree.proofs.walk.element.element_at.Goals as goal

pub returns : goal.returns
returns c f r at =
    let s = drop c.args.offset (bytes_of c.args.document) in
    let takes = rw (c.in-Some.ensures.left) at c.in-Some-next_element.ensures in
    (one_frame s (frame_of c.in-Some-next_element.element) f takes.0 r takes.1 at).0
