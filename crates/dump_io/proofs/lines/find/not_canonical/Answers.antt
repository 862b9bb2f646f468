use Rattle.std.proofs.Common.{None, Ok, Some, ap, subst, ◌∙◌}
use Rattle.raw_view.specs.Document.{bytes_of}
use Rattle.raw_tree.specs.Barriers.{TellsBarrierWithin}
use Rattle.raw_tree.specs.ValidationSteps.{violation_of}
use Rattle.raw_tree.proofs.Face.{barrier_told}
use Rattle.dump_io.specs.lines.Find.{account_at, spot_of}
use Rattle.dump_io.proofs.lines.find.not_canonical.Goals as goal

pub first_behind-requires : goal.first_behind-requires
first_behind-requires c =
    let (few, told, outermost) = c.requires in
    c.start_of.ensures c.args.limits.depth (bytes_of c.args.document) c.args.document.envelope.enough told outermost

pub returns-in-Ok-None : goal.returns-in-Ok-None
returns-in-Ok-None c =
    let b = bytes_of c.args.document in
    let (few, told, outermost) = c.requires in
    let spot = spot_of c.args.violation.place in
    let within = subst (TellsBarrierWithin c.args.limits.depth b) c.in-Ok-None.field-0-is c.in-Ok-None.ensures.told in
    let said = ap Some (c.without_reason.ensures ∙ ap (λ word. account_at word spot) c.cause_words.ensures) in
    (c.args.document.envelope, barrier_told c.args.limits b (Ok None) few within, (violation_of c.args.violation.cause, spot, (few, told), said))

pub returns-in-Ok-Some : goal.returns-in-Ok-Some
returns-in-Ok-Some c =
    let b = bytes_of c.args.document in
    let (few, told, outermost) = c.requires in
    let within = subst (TellsBarrierWithin c.args.limits.depth b) c.in-Ok-Some.field-0-is c.in-Ok-Some.ensures.told in
    let (x, is, at) = barrier_told c.args.limits b (Ok (Some c.in-Ok-Some.barrier)) few within in
    c.barred.ensures c.args.limits b x c.args.document.envelope is at
