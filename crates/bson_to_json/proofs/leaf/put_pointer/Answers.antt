use Rattle.bson_to_json.proofs.Common.{Appends, bytes_of_object_id, encode_lower, id_of, namespace_of, on_ok_weaker, pointer_json, quoted}
use Rattle.std.proofs.Common.{◌≡◌, ◌++◌, ℕ, List, codes, ap, ◌∙◌}
use Rattle.bson_to_json.proofs.Puts.{joined, whole_put}
use Rattle.bson_to_json.proofs.leaf.put_pointer.Goals as goal

pub returns : goal.returns
returns g c =
    let A = codes "{\"$dbPointer\":{\"$ref\":" in
    let B = codes ",\"$id\":" in
    let ns = c.namespace.result.now in
    let id_json = λ (i : List ℕ). codes "{\"$oid\":\"" ++ (encode_lower i ++ codes "\"}}}") in
    let id = bytes_of_object_id c.id.result in
    let e : (A ++ (quoted ns ++ B)) ++ id_json id ≡ pointer_json (namespace_of c.args.pointer) (id_of c.args.pointer) =
    joined A (quoted ns) B (id_json id) ∙ ap (λ (n : List ℕ). pointer_json n id) c.namespace.ensures ∙ ap (λ (i : List ℕ). pointer_json (namespace_of c.args.pointer) i) c.id.ensures in
    on_ok_weaker c.put_id.result (λ (p : Appends (g.W.Write.contents c.put_text.new.out) (g.W.Write.contents c.put_id.new.out) (id_json id)). whole_put
    (g.W.Write.contents c.args.out.now) (g.W.Write.contents c.put_text.new.out) (g.W.Write.contents c.put_id.new.out) (A ++ (quoted ns ++ B))
    (id_json id) _ c.in_ok-put_text.ensures p e) c.put_id.ensures
