use Rattle.std.proofs.Common.{rules, refl, inr, w32, to_z, of_z}
use Rattle.bsonraw_c.specs.Iters.{Returns}
use Rattle.bsonraw_c.specs.declared.codes.Status.TheVariants as status
use Rattle.bsonraw_c.proofs.texts.bsonraw_decimal128_from_text.Goals as goal

pub returns-in-None : goal.returns-in-None
returns-in-None c =
    let done : Returns status.Fault (to_z w32 (of_z w32 c.number-in-None.result)) = search rules in
    inr (c.decimal128_of.ensures.none c.in-None.is, refl, done)
