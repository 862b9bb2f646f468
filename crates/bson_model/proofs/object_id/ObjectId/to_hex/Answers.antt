use Rattle.std.proofs.Common.{ap, ◌∙◌, ◌*◌, length}
use Rattle.hex.specs.Hex.{lower_digits}
use Rattle.hex.proofs.HexLemmas.{length-encode_with}
use Rattle.bson_model.proofs.object_id.ObjectId.to_hex.Goals as goal

pub returns-clause-length : goal.returns-clause-length
returns-clause-length c =
    ap length c.in_ok-encode.ensures ∙ (length-encode_with lower_digits c.bytes.result ∙ ap (λ n. 2 * n) c.bytes.ensures.in_range.0)
