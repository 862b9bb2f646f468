use Rattle.std.proofs.Common.{◌≡◌, ◌∙◌, length, arith, ap}
use Rattle.raw_tree.proofs.Common.{bytes_of}
use Rattle.raw_tree.proofs.walk.Common.{Waiting}
use Rattle.raw_tree.proofs.walk.Offsets.{steps_done, steps_more, stored_many, stored_step, stored_there, stored_within}
use Rattle.raw_tree.proofs.walk.place.path_to.Goals as goal

abbrev none : Waiting
none = record { start = 0; element = 0; number = 0 }

pub element_at-requires-clause-within : goal.element_at-requires-clause-within
element_at-requires-clause-within c =
    let (step, stored, next) = stored_there (bytes_of c.args.document) c.args.waiting.now c.requires.0 c.loop-outer.outer-index none c.requires.1 c.loop-outer-test.true in
    stored_within (bytes_of c.args.document) _ step stored

pub element_at-requires-clause-frame : goal.element_at-requires-clause-frame
element_at-requires-clause-frame c =
    let (step, stored, next) = stored_there (bytes_of c.args.document) c.args.waiting.now c.requires.0 c.loop-outer.outer-index none c.requires.1 c.loop-outer-test.true in
    (stored.frame, stored.rest, stored.at)

pub loop-outer-preserved : goal.loop-outer-preserved
loop-outer-preserved c outer are_stored =
    let (step, stored, next) = stored_there (bytes_of c.args.document) c.args.waiting.now outer c.loop-outer.outer-index none are_stored c.loop-outer-test.true in
    steps_more c.loop-outer.path.items c.put_step.new.path.items _ outer c.loop-outer.outer-index step
    (c.loop-outer.invariant outer are_stored) c.in_ok-put_step.ensures.put
    (stored_step stored c.key.result.now (c.key.ensures ∙ ap (λ f. f.key) (c.element_at.ensures stored.frame stored.rest stored.at))) next

pub returns-clause-path : goal.returns-clause-path
returns-clause-path c outer are_stored =
    let many = stored_many (bytes_of c.args.document) c.args.waiting.now outer are_stored in
    let all : length outer ≡ c.loop-outer.outer-index = omega (arith, many, c.loop-outer-test.false, c.loop-outer.auto.outer-index-end) in
    steps_done c.loop-outer.path.items c.put_step-2.new.path.items _ outer c.loop-outer.outer-index (c.loop-outer.invariant outer are_stored) c.in_ok-put_step-2.ensures.put all
