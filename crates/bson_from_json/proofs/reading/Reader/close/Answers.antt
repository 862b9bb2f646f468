use Rattle.std.proofs.Common.{◌≡◌, ◌∙◌, arith, refl, rules}
use Rattle.bson_from_json.specs.declared.levels.Holder.TheVariants as holder
use Rattle.bson_from_json.proofs.Moments.{code_closed, on_ok, plain_closed, scope_closed}
use Rattle.bson_from_json.proofs.Keeps.{code_behind_refused, code_keeps, each_err, lacks_on, no_code_behind, no_scope_end, plain_keeps, scope_keeps, wrapper_lacks, wrapper_refused}
use Rattle.std.proofs.lemmas.Result.{err_from_is_err_and}
use Rattle.bson_from_json.proofs.reading.Reader.close.Goals as goal

pub returns-in_default-clause-rest : goal.returns-in_default-clause-rest
returns-in_default-clause-rest c = plain_closed _ _ c.args.level c.in_default.not-Scope c.in_default.not-ScopeBeforeCode c.close.ensures.levels c.in_ok-close.ensures.bytes refl

pub returns-in-Scope-clause-rest : goal.returns-in-Scope-clause-rest
returns-in-Scope-clause-rest c =
    let is : c.args.level.holder ≡ holder.Scope c.in-Scope.start = search rules in
    let levels = c.set_len.ensures.levels ∙ c.close.ensures.levels in
    on_ok c.end.result (λ e. scope_closed _ _ c.args.level c.in-Scope.start is levels c.in_ok-close.ensures.bytes c.set_len.ensures.bytes e) c.end.ensures.some

pub returns-in_ok-insert_string-in-ScopeBeforeCode-clause-rest : goal.returns-in_ok-insert_string-in-ScopeBeforeCode-clause-rest
returns-in_ok-insert_string-in-ScopeBeforeCode-clause-rest c =
    let is : c.args.level.holder ≡ holder.ScopeBeforeCode c.in-ScopeBeforeCode.start = search rules in
    let levels = c.set_len-in-ScopeBeforeCode.ensures.levels ∙ c.insert_string.ensures.levels ∙ c.close.ensures.levels in
    code_closed _ _ c.args.level c.in-ScopeBeforeCode.start is levels c.in_ok-close.ensures.bytes c.insert_string.ensures.text
    c.in_ok-insert_string-in-ScopeBeforeCode.ensures.bytes c.set_len-in-ScopeBeforeCode.ensures.bytes c.in_ok-code-in-ScopeBeforeCode.ensures.some

pub returns-in_default-clause-keeps : goal.returns-in_default-clause-keeps
returns-in_default-clause-keeps c =
    plain_keeps _ _ c.args.level c.close.ensures.limits c.close.ensures.levels c.in_default.not-Scope c.in_default.not-ScopeBeforeCode c.in_ok-close.ensures.len refl

pub returns-in-Scope-clause-keeps : goal.returns-in-Scope-clause-keeps
returns-in-Scope-clause-keeps c =
    let is : c.args.level.holder ≡ holder.Scope c.in-Scope.start = search rules in
    on_ok c.end.result
    (λ e. scope_keeps _ _ c.args.level (c.set_len.ensures.limits ∙ c.close.ensures.limits) (c.set_len.ensures.levels ∙ c.close.ensures.levels) c.in-Scope.start is
    (c.set_len.ensures.len ∙ c.in_ok-close.ensures.len) e) c.end.ensures.some

pub returns-in-Scope-clause-stops : goal.returns-in-Scope-clause-stops
returns-in-Scope-clause-stops c =
    let is : c.args.level.holder ≡ holder.Scope c.in-Scope.start = search rules in
    lacks_on c.end.result (λ r none. wrapper_lacks r (no_scope_end c.args.level.holder c.in-Scope.start is none)) c.end.ensures.none

pub returns-in_ok-insert_string-in-ScopeBeforeCode-clause-keeps : goal.returns-in_ok-insert_string-in-ScopeBeforeCode-clause-keeps
returns-in_ok-insert_string-in-ScopeBeforeCode-clause-keeps c =
    let is : c.args.level.holder ≡ holder.ScopeBeforeCode c.in-ScopeBeforeCode.start = search rules in
    let limits = c.set_len-in-ScopeBeforeCode.ensures.limits ∙ c.insert_string.ensures.limits ∙ c.close.ensures.limits in
    let levels = c.set_len-in-ScopeBeforeCode.ensures.levels ∙ c.insert_string.ensures.levels ∙ c.close.ensures.levels in
    code_keeps _ _ c.args.level limits levels c.in-ScopeBeforeCode.start is
    (omega (arith, c.set_len-in-ScopeBeforeCode.ensures.len, c.in_ok-insert_string-in-ScopeBeforeCode.ensures.len, c.in_ok-close.ensures.len))
    c.in_ok-code-in-ScopeBeforeCode.ensures.some

pub returns-in_err-code-in-ScopeBeforeCode-clause-stops : goal.returns-in_err-code-in-ScopeBeforeCode-clause-stops
returns-in_err-code-in-ScopeBeforeCode-clause-stops c =
    let is : c.args.level.holder ≡ holder.ScopeBeforeCode c.in-ScopeBeforeCode.start = search rules in
    each_err c.from_residual-in_err-code-in-ScopeBeforeCode.result
    (λ r. wrapper_lacks r (no_code_behind c.args.level.holder c.in-ScopeBeforeCode.start is c.in_err-code-in-ScopeBeforeCode.ensures.none))

pub returns-in_err-close-clause-stops : goal.returns-in_err-close-clause-stops
returns-in_err-close-clause-stops c =
    let e = err_from_is_err_and c.from_residual.result c.from_residual.ensures.1 in
    rw (e.1, e.2) (wrapper_refused _ 1 (λ n behind wrapper. omega arith) c.in_err-close.ensures.refused)

pub returns-in_err-insert_string-in-ScopeBeforeCode-clause-stops : goal.returns-in_err-insert_string-in-ScopeBeforeCode-clause-stops
returns-in_err-insert_string-in-ScopeBeforeCode-clause-stops c =
    let is : c.args.level.holder ≡ holder.ScopeBeforeCode c.in-ScopeBeforeCode.start = search rules in
    let e = err_from_is_err_and c.from_residual-in_err-insert_string-in-ScopeBeforeCode.result c.from_residual-in_err-insert_string-in-ScopeBeforeCode.ensures.1 in
    rw (e.1, e.2)
    (code_behind_refused c.close.new.self c.args.level c.in-ScopeBeforeCode.start _ is c.in_ok-code-in-ScopeBeforeCode.ensures.some c.close.ensures.limits c.close.ensures.levels
    c.in_ok-close.ensures.len c.in_err-insert_string-in-ScopeBeforeCode.ensures.refused)
