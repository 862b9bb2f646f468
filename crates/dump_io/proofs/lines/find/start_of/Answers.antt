use Rattle.std.proofs.Common.{◌≡◌, ◌∙◌, Some, ap, refl, slice_get, sym}
use Rattle.std.specs.Option.{option_copied}
use Rattle.raw_tree.proofs.Face.{first_begins}
use Rattle.dump_io.proofs.lines.Starting.{first_step, found_begins}
use Rattle.dump_io.proofs.lines.find.start_of.Goals as goal

pub returns-in-None : goal.returns-in-None
returns-in-None c depth b enough told outermost = first_begins depth b enough

pub returns-in-Some : goal.returns-in-Some
returns-in-Some c depth b enough told outermost =
    let path = c.args.violation.now.place.path.items in
    let step = c.in-Some.step.now in
    let there : slice_get path 0 ≡ Some step = rw (← c.deref.ensures.value) (sym c.first.ensures.value ∙ ap option_copied c.in-Some.is) in
    let (some, number) = first_step path step there in
    found_begins depth b c.args.violation.now step.number c.args.violation.now.outermost told outermost some number refl
