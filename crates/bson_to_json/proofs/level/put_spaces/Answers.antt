use Rattle.std.proofs.Common.{◌*◌, replicate, arith}
use Rattle.bson_to_json.proofs.Puts.{last_put, repeated_more}
use Rattle.bson_to_json.proofs.level.put_spaces.Goals as goal

pub returns : goal.returns
returns g c =
    let d = c.args.depth in
    last_put c.put_repeated-2.result (g.W.Write.contents c.args.out.now) (g.W.Write.contents c.put_repeated.new.out) (g.W.Write.contents c.put_repeated-2.new.out)
    (replicate d 32) _ _ c.in_ok-put_repeated.ensures (repeated_more d d (2 * d) 32 (omega arith)) c.put_repeated-2.ensures
