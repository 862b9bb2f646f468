use Rattle.std.proofs.Common.{◌≡◌, ◌+◌, ◌-◌, ◌<◌, ◌++◌, ℕ, List, take, drop, length, length-drop, arith, ap, ◌∙◌, subst}
use Rattle.json.specs.Print.{escape}
use Rattle.bson_to_json.proofs.Escapes.{run_put, byte_put, whole_run}
use Rattle.bson_to_json.proofs.Puts.{rest_whole, whole_put}
use Rattle.bson_to_json.proofs.quote.put_escaped.Goals as goal

pub returns-then-at-bytes : goal.returns-then-at-bytes
returns-then-at-bytes g c =
    let b = c.args.bytes.now in
    let at = c.runs.at in
    let n = c.plain_len-len.result in
    let left : List ℕ = take (length b - at) (drop at b) in
    let plain : escape (take n (drop at b)) ≡ take n (drop at b) = subst (λ (r : List ℕ). escape (take n r) ≡ take n r) (rest_whole b at) c.plain_len-len.ensures.plain in
    let e : escape (take at b) ++ take (at + n - at) (drop at b) ≡ escape b = run_put b at n (at + n - at) (omega arith) plain ∙ whole_run b (at + n) c.if-at-bytes.true in
    whole_put (g.W.Write.contents c.args.out.now) (g.W.Write.contents c.runs.out) (g.W.Write.contents c.put.new.out) (escape (take at b))
    (take (at + n - at) (drop at b)) (escape b) c.runs.invariant.1 c.in_ok-put.ensures e

pub runs-preserved : goal.runs-preserved
runs-preserved g c =
    let b = c.args.bytes.now in
    let at = c.runs.at in
    let n = c.plain_len-len.result in
    let plain : escape (take n (drop at b)) ≡ take n (drop at b) = subst (λ (r : List ℕ). escape (take n r) ≡ take n r) (rest_whole b at) c.plain_len-len.ensures.plain in
    let within : at + n < length b = omega (arith, c.plain_len-len.ensures.within, ap length (rest_whole b at), length-drop at b, c.runs.invariant.0, c.if-at-bytes.false) in
    let run = whole_put (g.W.Write.contents c.args.out.now) (g.W.Write.contents c.runs.out) (g.W.Write.contents c.put.new.out) (escape (take at b))
    (take (at + n - at) (drop at b)) (escape (take (at + n) b)) c.runs.invariant.1 c.in_ok-put.ensures (run_put b at n (at + n - at) (omega arith) plain) in (
      omega arith,
      whole_put (g.W.Write.contents c.args.out.now) (g.W.Write.contents c.put.new.out) (g.W.Write.contents c.put_escape.new.out)
          (escape (take (at + n) b)) _ (escape (take (at + n + 1) b)) run c.in_ok-put_escape.ensures (byte_put b (at + n) within),
    )
