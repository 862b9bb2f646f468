use Rattle.std.proofs.Common.{rules, refl, inl, inr, sym, subst, w32, w64, to_z, of_z, ◌≡◌}
use Rattle.values_from_json.specs.Times.{WritesTime}
use Rattle.bsonraw_c.specs.Iters.{Returns}
use Rattle.bsonraw_c.specs.declared.codes.Status.TheVariants as status
use Rattle.bsonraw_c.proofs.texts.bsonraw_date_time_from_text.Goals as goal

pub returns-in-Some : goal.returns-in-Some
returns-in-Some c =
    let same : to_z w64 (of_z w64 c.in-Some.found) ≡ c.in-Some.found = search rules in
    let done : Returns status.Done (to_z w32 (of_z w32 c.number.result)) = search rules in
    inl (subst (WritesTime c.args.text.now) (sym same) c.in-Some.ensures.some, done)

pub returns-in-None : goal.returns-in-None
returns-in-None c =
    let done : Returns status.Fault (to_z w32 (of_z w32 c.number-in-None.result)) = search rules in
    inr (c.millis_of.ensures.none c.in-None.is, refl, done)
