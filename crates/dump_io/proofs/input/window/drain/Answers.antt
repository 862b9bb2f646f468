use Rattle.std.proofs.Common.{rules, ◌≡◌, ◌+◌, sym, subst}
use Rattle.dump_io.proofs.input.Filling.{IsDrained, drained_kept, drained_more}
use Rattle.dump_io.proofs.input.window.drain.Goals as goal
use Rattle.dump_io.proofs.input.window.drain.Goals.{in-Ok+in_ok-count-in-Ok, in-Err+else-ne}

pub loop-preserved : goal.loop-preserved
loop-preserved g c =
    let a = g.R.Read.remaining c.args.reader.now in
    let b = g.R.Read.remaining c.loop.reader in
    let d = g.R.Read.remaining c.read.new.self in
    elim c.match-read.branch [
      | in-Ok+in_ok-count-in-Ok w ↦
          let sum : c.match-read.count ≡ c.loop.count + w.in-Ok.more = search rules in
          (subst (IsDrained a d) (sym sum) (drained_more a b d c.loop.count w.in-Ok.more c.read.new.buf c.loop.invariant.0 w.in-Ok.ensures.bytes.0 (search rules)), search rules)
      | in-Err+else-ne w ↦ (subst (IsDrained a d) (sym w.count-is) (drained_kept a b d c.loop.count c.loop.invariant.0 w.in-Err.ensures.bytes), search rules)
    ]
