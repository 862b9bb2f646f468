use Rattle.std.proofs.Common.{◌+◌, ◌++◌, ◌∙◌, ℕ, List, ap, arith, refl, length}
use Rattle.raw_view.specs.Frame.Format.{string_payload}
use Rattle.bson_from_json.specs.declared.levels.Holder.TheVariants as holder
use Rattle.bson_from_json.proofs.Moments.{on_ok_two, scope_at, scope_opened}
use Rattle.std.proofs.lemmas.Result.{err_from_is_err_and}
use Rattle.bson_from_json.proofs.Keeps.{code_head_len, each_err, head_len, no_scope, on_err, opened_more, scope_begun, scope_refused, value_lacks}
use Rattle.bson_from_json.proofs.Refusals.{refused_later}
use Rattle.bson_from_json.proofs.reading.Reader.scope_behind_code.Goals as goal

pub returns-clause-rest : goal.returns-clause-rest
returns-clause-rest c = on_ok_two c.open.result
    (λ level bytes. scope_opened _ _ c.args.key.now c.args.code.now _ c.put_string.ensures.text
    (scope_at (λ n. holder.Scope n) (c.put_string.ensures.levels ∙ c.put_code_head.ensures.levels) c.in_ok-start.ensures.start
    (c.in_ok-put_string.ensures.bytes ∙ ap (λ (x : List ℕ). x ++ string_payload c.args.code.now) c.in_ok-start.ensures.bytes) level bytes refl) c.in_ok-begin.ensures.some)
    c.open.ensures.level c.open.ensures.bytes

pub returns-in_err-begin-clause-stops : goal.returns-in_err-begin-clause-stops
returns-in_err-begin-clause-stops c = each_err c.from_residual.result (λ r. value_lacks r (no_scope c.args.code.now c.in_err-begin.ensures.none))

pub returns-in_err-start-clause-stops : goal.returns-in_err-start-clause-stops
returns-in_err-start-clause-stops c =
    let e = err_from_is_err_and c.from_residual-in_err-start.result c.from_residual-in_err-start.ensures.1 in
    rw (e.1, e.2) (scope_refused c.args.code.now _ (2 + length c.args.key.now + 4) 0 (omega arith) (omega arith) c.in_err-start.ensures.refused)

pub returns-in_err-put_string-clause-stops : goal.returns-in_err-put_string-clause-stops
returns-in_err-put_string-clause-stops c =
    let e = err_from_is_err_and c.from_residual-in_err-put_string.result c.from_residual-in_err-put_string.ensures.1 in
    let head = 2 + length c.args.key.now + 4 in
    let over = refused_later c.args.self.now.document c.put_code_head.new.self head (5 + length c.args.code.now) 0 _ c.put_code_head.ensures.limits c.put_code_head.ensures.levels
    (head_len _ _ c.in_ok-start.ensures.bytes) c.in_err-put_string.ensures.refused in
    rw (e.1, e.2) (scope_refused c.args.code.now _ (head + (5 + length c.args.code.now)) 0 (omega arith) (omega arith) over)

pub returns-clause-keeps : goal.returns-clause-keeps
returns-clause-keeps c =
    let limits = c.put_string.ensures.limits ∙ c.put_code_head.ensures.limits in
    let levels = c.put_string.ensures.levels ∙ c.put_code_head.ensures.levels in
    let len = code_head_len _ _ _ c.in_ok-start.ensures.bytes c.in_ok-put_string.ensures.bytes in
    on_ok_two c.open.result
    (λ level bytes. scope_begun c.args.code.now c.in_ok-start.start (length c.put_string.new.self.bytes.items) c.in_ok-begin.ensures.some (c.open.ensures.limits ∙ limits) levels level
    (omega (arith, opened_more _ bytes, len))) c.open.ensures.level c.open.ensures.bytes

pub returns-clause-stops : goal.returns-clause-stops
returns-clause-stops c =
    let limits = c.put_string.ensures.limits ∙ c.put_code_head.ensures.limits in
    let levels = c.put_string.ensures.levels ∙ c.put_code_head.ensures.levels in
    let len = code_head_len _ _ _ c.in_ok-start.ensures.bytes c.in_ok-put_string.ensures.bytes in
    let head = 2 + length c.args.key.now + 4 + (5 + length c.args.code.now) in
    on_err c.open.result
    (λ r over. scope_refused c.args.code.now r (head + 4) 1 (omega arith) (omega arith)
    (refused_later c.args.self.now.document c.put_string.new.self head 4 1 r limits levels len over)) c.open.ensures.refused
