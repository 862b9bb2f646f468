use Rattle.bson_to_json.proofs.Common.{Appends, Appends-trans, encode_lower, encode_of, on_ok_weaker, standard, subtype_byte}
use Rattle.std.proofs.Common.{◌≡◌, ◌++◌, [], ◌∷◌, ℕ, List, codes, ap, ◌∙◌, subst}
use Rattle.bson_to_json.proofs.leaf.put_binary.Goals as goal

pub returns : goal.returns
returns g c =
    let old = g.W.Write.contents c.args.out.now in
    let one = g.W.Write.contents c.put.new.out in
    let two = g.W.Write.contents c.put_base64.new.out in
    let new = g.W.Write.contents c.put_bytes_between.new.out in
    let bytes = encode_of standard c.args.binary.bytes.now in
    let tail = λ (d : List ℕ). codes "\",\"subType\":\"" ++ (d ++ codes "\"}}") in
    let digits : c.encode_to_slice.new.output ≡ encode_lower (subtype_byte c.args.binary.subtype ∷ []) = c.in-Ok.ensures.written ∙ ap (λ (n : ℕ). encode_lower (n ∷ [])) c.to_u8.ensures in
    on_ok_weaker c.put_bytes_between.result (λ (p : Appends two new (tail c.encode_to_slice.new.output)). subst
    (λ (d : List ℕ). Appends old new (codes "{\"$binary\":{\"base64\":\"" ++ (bytes ++ tail d))) digits
    (Appends-trans old one new (codes "{\"$binary\":{\"base64\":\"") (bytes ++ tail c.encode_to_slice.new.output) c.in_ok-put.ensures
    (Appends-trans one two new bytes (tail c.encode_to_slice.new.output) c.in_ok-put_base64.ensures p))) c.put_bytes_between.ensures
