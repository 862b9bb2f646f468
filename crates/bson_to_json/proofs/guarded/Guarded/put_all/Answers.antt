use Rattle.std.proofs.Common.{rules, ◌∙◌, ap}
use Rattle.bson_to_json.proofs.Puts.{ahead_kept, ahead_more, rest_whole}
use Rattle.bson_to_json.proofs.guarded.Guarded.put_all.Goals as goal
use Rattle.bson_to_json.proofs.guarded.Guarded.put_all.Goals.{in-Ok, in-Err+else-ne}

pub calls-preserved : goal.calls-preserved
calls-preserved g c =
    let old = g.W.Write.contents c.args.self.now.inner in
    let mid = g.W.Write.contents c.calls.self.inner in
    let new = g.W.Write.contents c.write.new.self.inner in
    let bytes = c.args.bytes.now in
    let rest = c.calls.rest.now in
    elim c.match-write.branch [
      | in-Ok w ↦ (
        ahead_more old mid new bytes rest c.match-write.rest.now w.in-Ok.len c.calls.invariant.0 w.in-Ok.ensures.bytes (ap (λ r. r.now) w.rest-is ∙ rest_whole rest w.in-Ok.len),
        w.in-Ok.ensures.marks.0 w.in-Ok.len-test.1 ∙ c.calls.invariant.1,
      )
      | in-Err+else-ne w ↦ (rw (ap (λ r. r.now) w.rest-is) (ahead_kept old mid new bytes rest c.calls.invariant.0 w.in-Err.ensures.bytes), search rules)
    ]
