use Rattle.std.proofs.Common.{◌≡◌, ap, sym, refl, ◌∙◌}
use Rattle.base64.specs.Engines.{standard}
use Rattle.base64.specs.GeneralPurpose.{decode_of, encode_of}
use Rattle.values_from_json.specs.Spaces.{without_spaces}
use Rattle.values_from_json.proofs.Spaces.{encoding_kept}
use Rattle.values_from_json.proofs.leaves.base64_of.Goals as goal

-- what is read as it is has no white space
pub returns-in-Ok-clause-some : goal.returns-in-Ok-clause-some
returns-in-Ok-clause-some c =
    let is : c.args.text.now ≡ encode_of standard c.in-Ok.bytes.items = c.in-Ok.ensures.exact (refl, refl) in
    let kept : without_spaces c.args.text.now ≡ c.args.text.now = ap without_spaces is ∙ encoding_kept c.in-Ok.bytes.items c.in-Ok.ensures.bytes ∙ sym is in
    ap (decode_of standard) kept ∙ c.in-Ok.ensures.ok
