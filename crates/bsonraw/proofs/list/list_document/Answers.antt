use Rattle.std.proofs.Common.{[], ◌∷◌, ◌++◌, ap, refl, sym, ◌∙◌}
use Rattle.raw_bson.specs.Frame.{Done, Stopped}
use Rattle.raw_bson.specs.ElementSteps.{frame_of}
use Rattle.raw_bson.proofs.Face.{HasRead-more, HasRead-end, HasRead-stop}
use Rattle.bsonraw.specs.Print.{end_line, frame_line}
use Rattle.bsonraw.proofs.Lines.{frame_lines-more}
use Rattle.bsonraw.proofs.list.list_document.Goals as goal

pub loop-item-preserved : goal.loop-item-preserved
loop-item-preserved c =
    let frames = c.loop-item.invariant.0 in
    let element = c.in-Ok.element in (
      frames ++ frame_of element ∷ [],
      HasRead-more _ frames c.loop-item.item-iterator c.next.new.self c.loop-item.invariant.1 c.in-Some.ensures.steps c.in-Ok.is,
      c.in_ok-push_element-in-Ok.ensures ∙ ap (λ lines. lines ++ frame_line (frame_of element)) c.loop-item.invariant.2 ∙ sym (frame_lines-more frames (frame_of element)),
    )

pub returns-in-Err : goal.returns-in-Err
returns-in-Err c =
    let frames = c.loop-item.invariant.0 in
    let stop = HasRead-stop _ frames c.loop-item.item-iterator c.next.new.self c.loop-item.invariant.1 c.in-Some.ensures.steps c.in-Err.is in
    record {
      frames = frames;
      end = Stopped stop.0 stop.1;
      walk = stop.2;
      status_is = refl;
      output_is = c.in_ok-push_fault-in-Err.ensures.line stop.0 stop.1 stop.3 ∙ ap (λ lines. lines ++ end_line (Stopped stop.0 stop.1)) c.loop-item.invariant.2;
    }

pub returns : goal.returns
returns c =
    let frames = c.loop-item.invariant.0 in
    record {
      frames = frames;
      end = Done;
      walk = HasRead-end _ frames c.loop-item.item-iterator c.next.new.self c.loop-item.invariant.1 c.in-None.ensures.steps;
      status_is = refl;
      output_is = c.in_ok-push_str.ensures.bytes ∙ ap (λ lines. lines ++ end_line Done) c.loop-item.invariant.2;
    }
