use Rattle.std.proofs.Common.{rules}
use Rattle.raw_view.specs.Document.{bytes_of}
use Rattle.raw_tree.proofs.Face.{envelope_fits}
use Rattle.raw_resync.proofs.Explaining.{step_within, walked_all, walked_more, walked_none}
use Rattle.raw_resync.proofs.length.walked_len.Goals as goal

pub elements-init : goal.elements-init
elements-init c = walked_none (bytes_of c.args.document) _ c.args.document.envelope c.new-elements.ensures

pub returns-in_default-clause-walked : goal.returns-in_default-clause-walked
returns-in_default-clause-walked c = walked_all c.elements.invariant _ c.args.document.envelope c.in_default.ensures

pub overflow_add-offset-in-elements : goal.overflow_add-offset-in-elements
overflow_add-offset-in-elements c =
    let step = step_within c.elements.invariant _ c.in-Some.element c.in-Some.ensures in
    let fits = envelope_fits (bytes_of c.args.document) c.args.document.envelope in
    search (rules, step, fits)

pub overflow_add-offset-in-elements-2 : goal.overflow_add-offset-in-elements-2
overflow_add-offset-in-elements-2 c =
    let step = step_within c.elements.invariant _ c.in-Some.element c.in-Some.ensures in
    let fits = envelope_fits (bytes_of c.args.document) c.args.document.envelope in
    search (rules, step, fits)

pub elements-preserved : goal.elements-preserved
elements-preserved c = search (rules, walked_more c.elements.invariant)
