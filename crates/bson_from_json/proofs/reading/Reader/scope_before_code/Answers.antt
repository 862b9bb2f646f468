use Rattle.std.proofs.Common.{◌+◌, ◌∙◌, arith, refl, length}
use Rattle.bson_from_json.specs.declared.levels.Holder.TheVariants as holder
use Rattle.bson_from_json.proofs.Moments.{before_code_opened, on_ok_two, scope_at}
use Rattle.std.proofs.lemmas.Result.{err_from_is_err_and}
use Rattle.bson_from_json.proofs.Keeps.{before_code_begun, before_code_refused, each_err, head_len, no_scope_before, on_err, opened_more, value_lacks}
use Rattle.bson_from_json.proofs.Refusals.{refused_later}
use Rattle.bson_from_json.proofs.reading.Reader.scope_before_code.Goals as goal

pub returns-clause-rest : goal.returns-clause-rest
returns-clause-rest c = on_ok_two c.open.result
    (λ level bytes. before_code_opened _ _ c.args.key.now _
    (scope_at (λ n. holder.ScopeBeforeCode n) c.put_code_head.ensures.levels c.in_ok-start.ensures.start c.in_ok-start.ensures.bytes level bytes refl)
    c.in_ok-begin.ensures.some) c.open.ensures.level c.open.ensures.bytes

pub returns-in_err-begin-clause-stops : goal.returns-in_err-begin-clause-stops
returns-in_err-begin-clause-stops c = each_err c.from_residual.result (λ r. value_lacks r (no_scope_before c.in_err-begin.ensures.none))

pub returns-in_err-start-clause-stops : goal.returns-in_err-start-clause-stops
returns-in_err-start-clause-stops c =
    let e = err_from_is_err_and c.from_residual-in_err-start.result c.from_residual-in_err-start.ensures.1 in
    rw (e.1, e.2) (before_code_refused _ (2 + length c.args.key.now + 4) 0 (omega arith) (omega arith) c.in_err-start.ensures.refused)

pub returns-clause-keeps : goal.returns-clause-keeps
returns-clause-keeps c =
    let len = head_len _ _ c.in_ok-start.ensures.bytes in
    on_ok_two c.open.result
    (λ level bytes. before_code_begun c.in_ok-start.start (length c.put_code_head.new.self.bytes.items) c.in_ok-begin.ensures.some
    (c.open.ensures.limits ∙ c.put_code_head.ensures.limits) c.put_code_head.ensures.levels level (omega (arith, opened_more _ bytes, len))) c.open.ensures.level c.open.ensures.bytes

pub returns-clause-stops : goal.returns-clause-stops
returns-clause-stops c =
    let head = 2 + length c.args.key.now + 4 in
    let len = head_len _ _ c.in_ok-start.ensures.bytes in
    on_err c.open.result
    (λ r over. before_code_refused r (head + 4) 1 (omega arith) (omega arith)
    (refused_later c.args.self.now.document c.put_code_head.new.self head 4 1 r c.put_code_head.ensures.limits c.put_code_head.ensures.levels len over)) c.open.ensures.refused
