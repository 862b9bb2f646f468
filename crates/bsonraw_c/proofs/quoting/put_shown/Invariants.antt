use Rattle.std.proofs.Common.{flat_map}
use Rattle.bsonraw_c.specs.Quoting.{shown_char}
use Rattle.bsonraw_c.specs.TextRooms.{Grows}
use Rattle.bsonraw_c.proofs.quoting.put_shown.Given as goal

-- each character so far is put
abbrev pub invariant-loop-char : goal.invariant-loop-char
invariant-loop-char l = Grows (flat_map shown_char l.yielded) l.initial.room l.fn.count l.room l.so_far
