use Rattle.std.proofs.Common.{rules, ◌≡◌, ℤ, inl, sym, subst, w32, w64, to_z, of_z}
use Rattle.bson_to_json.specs.Dates.{IsInstantText}
use Rattle.bsonraw_c.specs.Iters.{Returns}
use Rattle.bsonraw_c.specs.declared.codes.Status.TheVariants as status
use Rattle.bsonraw_c.proofs.texts.bsonraw_date_time_to_text.Goals as goal

pub returns : goal.returns
returns c =
    let z = c.args.millis in
    let text = c.as_bytes.result.now in
    let same : to_z w64 (of_z w64 z) ≡ z = search rules in
    let is : IsInstantText (to_z w64 (of_z w64 z)) text = subst (IsInstantText (to_z w64 (of_z w64 z))) (sym c.as_bytes.ensures.bytes) c.in-Some.ensures.some in
    let done : Returns status.Done (to_z w32 (of_z w32 c.number-2.result)) = search rules in
    inl (text, subst (λ (y : ℤ). IsInstantText y text) same is, c.put_text.ensures, done)
