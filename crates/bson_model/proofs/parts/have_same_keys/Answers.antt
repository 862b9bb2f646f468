use Rattle.std.proofs.Common.{sym, ◌∙◌, nat_eq}
use Rattle.std.specs.Cmp.Derive.Mapped.{pointwise-map}
use Rattle.std.specs.Cmp.Lexicographic.{pointwise}
use Rattle.std.specs.String.{string_bytes}
use Rattle.bson_model.proofs.parts.have_same_keys.Goals as goal

pub returns : goal.returns
returns c = rw (← c.as_slice.ensures.texts, ← c.as_slice-2.ensures.texts) c.eq.ensures ∙ sym (pointwise-map string_bytes (pointwise nat_eq) c.args.left.now c.args.right.now)
