use Rattle.std.proofs.Common.{[], ◌∷◌, Bool, OnOk, codes, cond, decimal, lt-ltb, subst, sym}
use Rattle.json.specs.Token.{key, number}
use Rattle.dump_io.specs.lines.Told.{Grows}
use Rattle.dump_commands.proofs.diff.lines.put_more.Goals as goal

pub returns-then-more-gt0 : goal.returns-then-more-gt0
returns-then-more-gt0 c =
    let more = c.args.more in
    subst (λ (b : Bool). OnOk c.put_number.result (Grows c.args.object.now c.put_number.new.object (cond b (key (codes "more paths") ∷ number (decimal more) ∷ []) [])))
    (sym (lt-ltb 0 more c.if-more-gt0.true)) c.put_number.ensures
