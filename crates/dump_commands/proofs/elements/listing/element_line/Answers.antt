use Rattle.std.proofs.Common.{◌++◌, codes, inr, refl}
use Rattle.dump_io.specs.lines.Find as find
use Rattle.dump_commands.proofs.elements.listing.element_line.Goals as goal

pub returns-in_ok-fault_line-in-Err : goal.returns-in_ok-fault_line-in-Err
returns-in_ok-fault_line-in-Err c =
    let (fault, means, tells) = c.in-Err.ensures.fault in
    let shown = c.in_ok-shown-in-Err.shown.items in
    let why = c.in-Err.error.kind in
    let words = codes "damaged: " ++ find.kind_text why in
    let line = rw c.deref.ensures.value at c.in_ok-fault_line-in-Err.ensures in
    inr (fault, words ++ shown, means, (words, shown, (why, tells.says, c.in-Err.error.reading, refl), c.in_ok-shown-in-Err.ensures, refl), refl, line)
