use Rattle.std.proofs.Common.{◌∙◌, refl}
use Rattle.raw_bson.specs.Value.{value_of}
use Rattle.raw_bson.proofs.Face.{HasCopied-none, HasCopied-element, HasCopied-put, HasCopied-end, EndsCopy-new, EndsCopy-stop, EndsCopy-element, EndsCopy-put, EndsCopy-inside}
use Rattle.bson_uses.proofs.update.+set_path.Goals as goal

pub returns-in_err-copy-clause-refused : goal.returns-in_err-copy-clause-refused
returns-in_err-copy-clause-refused t c = EndsCopy-new _ _ _ _ c.in_err-copy.ensures.err c.from_residual.ensures.1

pub loop-element-init : goal.loop-element-init
loop-element-init t c = HasCopied-none c.in_ok-copy.ensures.empty (c.into_iter-element-iterator.ensures.into_iter_gives ∙ c.iter_elements-element-items.ensures.begins)

pub returns-in_err-element-clause-refused : goal.returns-in_err-element-clause-refused
returns-in_err-element-clause-refused t c =
    EndsCopy-stop _ c.next.new.self _ _ c.loop-element.invariant c.in-Some.ensures.steps c.in_err-element.was c.from_residual-in_err-element.ensures.1

pub loop-element-preserved-in-Continue-branch-3 : goal.loop-element-preserved-in-Continue-branch-3
loop-element-preserved-in-Continue-branch-3 t c =
    HasCopied-element c.loop-element.invariant c.in-Some.ensures.steps c.in_ok-element.was (c.in-Keep.ensures (value_of c.args.value)) c.in_ok-append_element-in-Keep.ensures.walk

pub returns-in_err-append_element-in-Keep-clause-refused :
    goal.returns-in_err-append_element-in-Keep-clause-refused
returns-in_err-append_element-in-Keep-clause-refused t c =
    EndsCopy-element _ c.next.new.self _ _ c.loop-element.invariant c.in-Some.ensures.steps c.in_ok-element.was (c.in-Keep.ensures (value_of c.args.value))
    c.in_err-append_element-in-Keep.ensures.appends c.from_residual-in_err-append_element-in-Keep.ensures.1

pub loop-element-preserved-in-Continue-branch-4 : goal.loop-element-preserved-in-Continue-branch-4
loop-element-preserved-in-Continue-branch-4 t c =
    HasCopied-put c.loop-element.invariant c.in-Some.ensures.steps c.in_ok-element.was c.key.ensures refl (c.in-Put.ensures (value_of c.args.value))
    c.in_ok-append_ref-in-Put.ensures.adds

pub returns-in_err-append_ref-in-Put-clause-refused :
    goal.returns-in_err-append_ref-in-Put-clause-refused
returns-in_err-append_ref-in-Put-clause-refused t c =
    EndsCopy-put _ c.next.new.self _ _ c.loop-element.invariant c.in-Some.ensures.steps c.in_ok-element.was c.key.ensures refl (c.in-Put.ensures (value_of c.args.value))
    c.in_err-append_ref-in-Put.ensures.appends c.from_residual-in_err-append_ref-in-Put.ensures.1

pub returns-in_err-below-in-Below-clause-refused :
    goal.returns-in_err-below-in-Below-clause-refused
returns-in_err-below-in-Below-clause-refused t c =
    let why = c.in-Below.ensures.2 (value_of c.args.value) c.in_err-below-in-Below.field-0.0 c.in_err-below-in-Below.ensures.refused in
    EndsCopy-inside _ c.next.new.self _ _ c.loop-element.invariant c.in-Some.ensures.steps c.in_ok-element.was why c.from_residual-in_err-below-in-Below.ensures.1

pub returns-in_err-append_ref-in-Below-clause-refused :
    goal.returns-in_err-append_ref-in-Below-clause-refused
returns-in_err-append_ref-in-Below-clause-refused t c =
    let sets = c.in-Below.ensures.1 (value_of c.args.value) c.in_ok-below-in-Below.below c.in_ok-below-in-Below.ensures.copied in
    EndsCopy-put _ c.next.new.self _ _ c.loop-element.invariant c.in-Some.ensures.steps c.in_ok-element.was c.key-in-Below.ensures c.from.ensures sets
    c.in_err-append_ref-in-Below.ensures.appends c.from_residual-in_err-append_ref-in-Below.ensures.1

pub loop-element-preserved : goal.loop-element-preserved
loop-element-preserved t c =
    let sets = c.in-Below.ensures.1 (value_of c.args.value) c.in_ok-below-in-Below.below c.in_ok-below-in-Below.ensures.copied in
    HasCopied-put c.loop-element.invariant c.in-Some.ensures.steps c.in_ok-element.was c.key-in-Below.ensures c.from.ensures sets c.in_ok-append_ref-in-Below.ensures.adds

pub returns-clause-copied : goal.returns-clause-copied
returns-clause-copied t c = HasCopied-end c.next.new.self c.loop-element.invariant c.in-None.ensures.steps
