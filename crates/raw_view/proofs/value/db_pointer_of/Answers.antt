use Rattle.std.proofs.Common.{◌≡◌, ◌++◌, sym, arith}
use Rattle.std.proofs.lemmas.List.{take-append-drop}
use Rattle.std.proofs.lemmas.Result.{err_from_is_err_and}
use Rattle.raw_view.proofs.Frames.Shapes.{pointer_no_text, pointer_len}
use Rattle.raw_view.proofs.value.db_pointer_of.Goals as goal

pub returns-in_err-namespace-clause-fault : goal.returns-in_err-namespace-clause-fault
returns-in_err-namespace-clause-fault c =
    let e = err_from_is_err_and c.from_residual.result c.from_residual.ensures.1 in
    let h = c.in_err-namespace.ensures.fault in
    let whole : c.args.payload.now ≡ c.split_at.result.0.now ++ c.split_at.result.1.now = rw (c.split_at.ensures.front, c.split_at.ensures.back) (sym (take-append-drop _ _)) in
    let bad = pointer_no_text _ _ _ whole (omega (arith, pointer_len _ _ _ c.requires.2)) h.1.0 in
    rw e.1 (h.0, (bad.0, bad.1, bad.2, bad.3, h.1.1), rw e.2 h.2)
