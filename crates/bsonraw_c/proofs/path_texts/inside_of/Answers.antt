use Rattle.std.proofs.Common.{◌∙◌, ap, refl, sym}
use Rattle.raw_bson.specs.Document.{bytes_of}
use Rattle.raw_bson.specs.Meaning.{RawValue, faulty, value}
use Rattle.raw_bson.specs.Value.{value_of}
use Rattle.bsonraw_c.specs.PathTexts.{level_of}
use Rattle.bsonraw_c.proofs.PathTexts.{held_level, no_level}
use Rattle.bsonraw_c.proofs.path_texts.inside_of.Goals as goal

pub returns-in-Err : goal.returns-in-Err
returns-in-Err c = let e = c.in-Err.ensures.fault in (faulty e.0, e.1, refl)

pub returns-in-Some : goal.returns-in-Some
returns-in-Some c =
    let level = c.in-Some.level in (
      value (value_of c.in-Ok.value),
      c.in-Ok.ensures.value,
      sym (ap (λ (v : RawValue). level_of (value v)) c.in-Some.ensures ∙ held_level level.holder (bytes_of level.document)),
    )

pub returns-in-None : goal.returns-in-None
returns-in-None c = (value (value_of c.in-Ok.value), c.in-Ok.ensures.value, sym (no_level (value_of c.in-Ok.value) c.in-None.ensures))
