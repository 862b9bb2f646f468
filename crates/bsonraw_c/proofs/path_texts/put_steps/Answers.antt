use Rattle.std.proofs.Common.{ap}
use Rattle.std.specs.Option.{option_map}
use Rattle.raw_bson.specs.Document.{bytes_of}
use Rattle.raw_form.specs.Barriers.{step_of}
use Rattle.bsonraw_c.proofs.PathTexts.{shown_all, shown_more, shown_no_level, shown_none}
use Rattle.bsonraw_c.proofs.path_texts.put_steps.Goals as goal

pub loop-index-init : goal.loop-index-init
loop-index-init c = shown_none (bytes_of c.args.document) c.args.path.now c.args.room.now

pub returns-in-None : goal.returns-in-None
returns-in-None c = shown_no_level c.loop-index.invariant (ap (option_map bytes_of) c.in-None.is)

pub loop-index-preserved : goal.loop-index-preserved
loop-index-preserved c =
    let reached = c.reach-reached.result in
    shown_more c.loop-index.invariant (bytes_of c.in-Some.inner) (step_of reached.step) (option_map bytes_of reached.inside) c.put_shown-count.new.room c.put_shown-count.result
    (ap (option_map bytes_of) c.in-Some.is) c.loop-index-test.true c.reach-reached.ensures c.put_shown-count.ensures

pub returns : goal.returns
returns c = shown_all c.loop-index.invariant c.loop-index-test.false
