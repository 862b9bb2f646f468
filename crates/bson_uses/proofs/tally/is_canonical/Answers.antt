use Rattle.std.proofs.Common.{◌≡◌, true, false}
use Rattle.raw_bson.specs.Document.{bytes_of}
use Rattle.raw_form.proofs.Face.{breach_not_canonical, too_deep_not_canonical}
use Rattle.bson_uses.proofs.tally.is_canonical.Goals as goal

pub returns-in-Ok-Some-clause-told : goal.returns-in-Ok-Some-clause-told
returns-in-Ok-Some-clause-told c = (
  λ never. let bad : false ≡ true = never in cc,
  λ canonical. absurd (breach_not_canonical (bytes_of c.args.document) c.in-Ok-Some.ensures.one_violation c.in-Ok-Some.ensures.violation c.in-Ok-Some.field-0-is canonical),
)

pub returns-in-Err-TooDeep-clause-told : goal.returns-in-Err-TooDeep-clause-told
returns-in-Err-TooDeep-clause-told c = (
  λ never. let bad : false ≡ true = never in cc,
  λ canonical. absurd (too_deep_not_canonical (bytes_of c.args.document) c.in-Err-TooDeep.ensures.one_violation c.in-Err-TooDeep.ensures.violation c.in-Err-TooDeep.field-0-is canonical),
)
