use Rattle.std.proofs.Common.{Option, List, ℕ, subst}
use Rattle.std.specs.Iterator.{Drains}
use Rattle.raw_view.specs.Frame.ElementSteps.{StepsElement}
use Rattle.raw_view.proofs.Frames.Iteration.{walk_of}
use Rattle.raw_view.proofs.Unique.Walks.{one_frame, the_walk}
use Rattle.raw_view.proofs.Frames.Walks.{document_has_walk}
use Rattle.raw_view.proofs.document.RawDocument.iter_elements.Goals as goal

pub returns-clause-walk : goal.returns-clause-walk
returns-clause-walk c items run =
    let w = walk_of _ items (subst (λ (x : Option (List ℕ)). Drains StepsElement x items) c.new.ensures run) in
    (w.0, w.1, the_walk _ w.0 w.1 w.2, w.3)

pub returns-clause-one_walk : goal.returns-clause-one_walk
returns-clause-one_walk c =
    let w = document_has_walk _ c.args.self.envelope in
    (w.0, w.1, the_walk _ w.0 w.1 w.2)

pub returns-clause-one_frame : goal.returns-clause-one_frame
returns-clause-one_frame c = one_frame
