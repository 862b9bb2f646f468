-- The lines of frames, one after another.
use Rattle.std.proofs.Common.{◌≡◌, List, [], ◌∷◌, ◌++◌, ap, sym, ◌∙◌, append_assoc, append-nil}
use Rattle.raw_bson.specs.Frame.{Frame}
use Rattle.bsonraw.specs.Print.{frame_line, frame_lines}

-- one more frame is one more line
pub frame_lines-more : (fs : List Frame) (f : Frame) → frame_lines (fs ++ f ∷ []) ≡ frame_lines fs ++ frame_line f
frame_lines-more [] f = search append-nil
frame_lines-more (g ∷ fs) f = ap (λ lines. frame_line g ++ lines) (frame_lines-more fs f) ∙ sym (append_assoc (frame_line g) (frame_lines fs) (frame_line f))
