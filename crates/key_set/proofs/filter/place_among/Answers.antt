use Rattle.std.proofs.Common.{arith, ◌∙◌}
use Rattle.key_set.specs.References.{texts}
use Rattle.key_set.proofs.KeyPlaces.{place_where, text_place}
use Rattle.key_set.proofs.filter.place_among.Goals as goal

pub returns-then-has_bit : goal.returns-then-has_bit
returns-then-has_bit c = c.place_of.ensures ∙ text_place c.args.key.now c.args.keys.now

pub returns-else-has_bit : goal.returns-else-has_bit
returns-else-has_bit c = grind (arith, place_where (texts c.args.keys.now) c.args.key.now, c.requires.filtered c.args.key.now)
