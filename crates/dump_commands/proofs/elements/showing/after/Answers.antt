use Rattle.std.proofs.Common.{◌≡◌, ◌+◌, ◌∙◌, ℕ, ap, arith, drop, length-drop, sym}
use Rattle.std.proofs.lemmas.List.{drop-drop}
use Rattle.raw_tree.proofs.Face.{drop_frame, envelope_fits, frame_size}
use Rattle.raw_tree.specs.walk.Looking.{size_of}
use Rattle.raw_view.specs.Document.{bytes_of}
use Rattle.raw_view.specs.Frame.ElementSteps.{frame_of}
use Rattle.dump_commands.specs.elements.Showing.{left_in}
use Rattle.dump_commands.proofs.elements.showing.after.Goals as goal

pub behind-requires : goal.behind-requires
behind-requires c =
    let b = bytes_of c.args.level.document in
    omega (
      arith,
      frame_size (left_in c.args.level) (frame_of c.args.element) c.requires.0 c.requires.1,
      length-drop c.args.level.offset b,
      envelope_fits b c.args.level.document.envelope,
      c.args.level.within.0,
      c.args.level.within.1,
    )

pub invariant_of-result : goal.invariant_of-result
invariant_of-result c =
    let b = bytes_of c.args.level.document in
    let size = frame_size (left_in c.args.level) (frame_of c.args.element) c.requires.0 c.requires.1 in
    record {
      within = (
        omega (arith, c.behind.ensures, c.args.level.within.0),
        omega (arith, c.behind.ensures, size, length-drop c.args.level.offset b, c.args.level.within.0, c.args.level.within.1),
      );
    }

pub returns : goal.returns
returns c = λ r at.
    let b = bytes_of c.args.level.document in
    let f = frame_of c.args.element in
    let whole : size_of f + 0 ≡ size_of f = omega arith in
    ap (λ (n : ℕ). drop n b) c.behind.ensures ∙ sym (drop-drop (size_of f) c.args.level.offset b)
    ∙ ap (λ (n : ℕ). drop n (left_in c.args.level)) (sym whole) ∙ drop_frame (left_in c.args.level) f r 0 at
