use Rattle.std.proofs.Common.{◌≡◌, ◌∙◌, refl}
use Rattle.raw_view.specs.Meaning.{not_text}
use Rattle.raw_view.proofs.Frames.Shapes.{string_cut}
use Rattle.raw_view.proofs.value.text_of.Goals as goal

pub returns-in-Ok-clause-text : goal.returns-in-Ok-clause-text
returns-in-Ok-clause-text c =
    let same : c.in-Ok.text.now ≡ c.requires.0 = c.in-Ok.ensures.text.0 ∙ string_cut _ _ c.requires.1 in
    (rw same c.requires.1, rw c.in-Ok.ensures.text.0 c.in-Ok.ensures.text.1)

pub returns-in-Err-clause-fault : goal.returns-in-Err-clause-fault
returns-in-Err-clause-fault c =
    let none = rw (string_cut _ _ c.requires.1) at c.in-Err.ensures.fault in
    (not_text, ((c.requires.0, c.requires.1, none), refl), record { says = refl; key_is = refl })
