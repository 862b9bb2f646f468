use Rattle.std.proofs.Common.{List, ℕ, ◌∙◌, flat_map, map-id, subst, sym}
use Rattle.std.proofs.lemmas.Iterator.{YieldsList-from_chars}
use Rattle.std.proofs.lemmas.Iterator.Consumers.{YieldsList-end}
use Rattle.bsonraw_c.specs.Quoting.{shown_char}
use Rattle.bsonraw_c.specs.TextRooms.{Grows}
use Rattle.bsonraw_c.proofs.quoting.put_shown.Goals as goal

pub returns : goal.returns
returns c =
    let end = YieldsList-end (YieldsList-from_chars c.args.words.now c.utf8.words cc) c.loop-char.yielded _ c.loop-char.yielded_by _ _ c.in-None.is c.next.ensures.steps in
    subst (λ (cs : List ℕ). Grows (flat_map shown_char cs) c.args.room.now c.args.count c.loop-char.room c.loop-char.so_far)
    (sym (map-id c.loop-char.yielded) ∙ end.0) c.loop-char.invariant
