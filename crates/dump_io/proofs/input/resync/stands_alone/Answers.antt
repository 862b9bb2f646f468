use Rattle.std.proofs.Common.{◌∙◌, ◌&&◌, ap, not, subst, sym}
use Rattle.dump_io.specs.input.Resync.{LooksBehind, reached}
use Rattle.dump_io.proofs.input.Deciding.{looks_behind}
use Rattle.dump_io.proofs.input.resync.stands_alone.Goals as goal

pub returns-then-seen-clause-looks : goal.returns-then-seen-clause-looks
returns-then-seen-clause-looks g c =
    let r = g.R.Read.remaining in
    let behind = c.in_ok-seen.seen in
    subst (LooksBehind c.args.limits (reached (r c.args.reader.now) c.args.window.now c.args.work.now) (reached (r c.see.new.reader) c.see.new.window c.see.new.work) c.args.len)
    (ap (λ b. b && not behind.goes_on) c.if-seen.true) (looks_behind behind c.in_ok-seen.ensures.sees)

pub returns-else-seen-clause-looks : goal.returns-else-seen-clause-looks
returns-else-seen-clause-looks g c =
    let r = g.R.Read.remaining in
    let behind = c.in_ok-seen.seen in
    subst (LooksBehind c.args.limits (reached (r c.args.reader.now) c.args.window.now c.args.work.now) (reached (r c.see.new.reader) c.see.new.window c.see.new.work) c.args.len)
    (ap (λ b. b && not behind.goes_on) c.if-seen.false ∙ sym c.if-seen.false) (looks_behind behind c.in_ok-seen.ensures.sees)
