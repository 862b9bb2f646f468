use Rattle.std.proofs.Common.{◌≡◌, ◌≤◌, ◌-◌, ◌++◌, ℕ, List, replicate, take, arith, ap, ◌∙◌}
use Rattle.std.proofs.lemmas.List.{take-replicate}
use Rattle.bson_to_json.proofs.Puts.{last_put, repeated_more, whole_put}
use Rattle.bson_to_json.proofs.put.put_repeated.Goals as goal

pub writing-preserved : goal.writing-preserved
writing-preserved g c =
    let count = c.args.count in
    let left = c.writing.left in
    let fewer : left - 64 ≤ count = omega (arith, c.writing.invariant.0) in
    let more : replicate (count - left) c.args.byte ++ replicate 64 c.args.byte ≡ replicate (count - (left - 64)) c.args.byte =
    repeated_more (count - left) 64 (count - (left - 64)) c.args.byte (omega (arith, c.writing.invariant.0)) in (
      fewer,
      whole_put (g.W.Write.contents c.args.out.now) (g.W.Write.contents c.writing.out) (g.W.Write.contents c.put.new.out)
          (replicate (count - left) c.args.byte) (replicate 64 c.args.byte) _ c.writing.invariant.1 c.in_ok-put.ensures more,
    )

pub returns : goal.returns
returns g c =
    let count = c.args.count in
    let left = c.writing.left in
    let last : take left (replicate 64 c.args.byte) ≡ replicate left c.args.byte = take-replicate left 64 c.args.byte c.writing-test.false in
    let more : replicate (count - left) c.args.byte ++ take left (replicate 64 c.args.byte) ≡ replicate count c.args.byte =
    ap (λ (x : List ℕ). replicate (count - left) c.args.byte ++ x) last
    ∙ repeated_more (count - left) left count c.args.byte (omega (arith, c.writing.invariant.0)) in
    last_put c.put-2.result (g.W.Write.contents c.args.out.now) (g.W.Write.contents c.writing.out) (g.W.Write.contents c.put-2.new.out)
    (replicate (count - left) c.args.byte) _ _ c.writing.invariant.1 more c.put-2.ensures
