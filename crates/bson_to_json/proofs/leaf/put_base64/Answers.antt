use Rattle.bson_to_json.proofs.Common.{Appends, Appends-nil, encode_of, encode_of-nil, standard}
use Rattle.std.proofs.Common.{◌≡◌, ◌+◌, ◌-◌, ◌≤◌, ◌%◌, ℕ, List, take, drop, length, arith, refl, sym, subst}
use Rattle.bson_to_json.proofs.Chunks.{chunk_put, last_chunk}
use Rattle.bson_to_json.proofs.Puts.{last_put, whole_put}
use Rattle.bson_to_json.proofs.leaf.put_base64.Goals as goal

pub chunks-init : goal.chunks-init
chunks-init g c =
    let old = g.W.Write.contents c.args.out.now in
    (omega arith, refl, subst (Appends old old) (sym (encode_of-nil standard)) (Appends-nil old))

pub chunks-preserved : goal.chunks-preserved
chunks-preserved g c =
    let b = c.args.bytes.now in
    let at = c.chunks.at in
    let within : at + 192 ≤ length b = omega (arith, c.chunks.invariant.0, c.chunks-test.true) in
    let groups : (at + 192) % 3 ≡ 0 = omega (arith, c.chunks.invariant.1) in (
      within,
      groups,
      whole_put (g.W.Write.contents c.args.out.now) (g.W.Write.contents c.chunks.out) (g.W.Write.contents c.put_chunk.new.out)
          (encode_of standard (take at b)) (encode_of standard (take (at + 192 - at) (drop at b)))
          (encode_of standard (take (at + 192) b)) c.chunks.invariant.2 c.in_ok-put_chunk.ensures
          (chunk_put b at 192 (at + 192 - at) c.chunks.invariant.0 c.chunks.invariant.1 (omega arith)),
    )

pub returns : goal.returns
returns g c =
    let b = c.args.bytes.now in
    let at = c.chunks.at in
    let last : List ℕ = encode_of standard (take (length b - at) (drop at b)) in
    last_put c.put_chunk-2.result (g.W.Write.contents c.args.out.now) (g.W.Write.contents c.chunks.out) (g.W.Write.contents c.put_chunk-2.new.out)
    (encode_of standard (take at b)) last _ c.chunks.invariant.2 (last_chunk b at c.chunks.invariant.0 c.chunks.invariant.1) c.put_chunk-2.ensures
