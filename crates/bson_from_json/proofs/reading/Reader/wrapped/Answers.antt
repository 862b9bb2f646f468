use Rattle.std.proofs.Common.{arith, refl, ◌≡◌, rules}
use Rattle.bson_from_json.proofs.Left.{leaf_less, one_taken}
use Rattle.bson_from_json.proofs.Moments.{on_ok, wrapped_put}
use Rattle.std.proofs.lemmas.Result.{err_from_is_err_and}
use Rattle.bson_from_json.proofs.Keeps.{lacks_on, no_wrapper_end, on_err, value_lacks, wrapped_as, wrapped_keeps, wrapped_stops}
use Rattle.values_from_json.specs.declared.wrapper.Wrapper.TheVariants as wrapper
use Rattle.bson_from_json.proofs.reading.Reader.wrapped.Goals as goal

pub returns-clause-less : goal.returns-clause-less
returns-clause-less c = on_ok c.end.result (λ e. omega (arith, leaf_less c.in_ok-leaf-in_default.ensures.some, one_taken _ _ _ e)) c.end.ensures.some

pub returns-clause-rest : goal.returns-clause-rest
returns-clause-rest c = on_ok c.end.result (λ e. wrapped_put _ _ c.in_ok-leaf-in_default.ensures.some e refl) c.end.ensures.some

pub returns-clause-keeps : goal.returns-clause-keeps
returns-clause-keeps c =
    on_ok c.end.result (λ e. wrapped_keeps c.args.wrapper c.in_default.not-Code c.in_default.not-Scope c.in_default.not-Binary c.in_ok-leaf-in_default.ensures.some e refl) c.end.ensures.some

pub returns-clause-stops : goal.returns-clause-stops
returns-clause-stops c =
    lacks_on c.end.result (λ r none. value_lacks r (no_wrapper_end c.args.wrapper c.in_default.not-Code c.in_default.not-Scope c.in_default.not-Binary
    c.in_ok-leaf-in_default.ensures.some none)) c.end.ensures.none

pub returns-in_err-leaf-in_default-clause-stops : goal.returns-in_err-leaf-in_default-clause-stops
returns-in_err-leaf-in_default-clause-stops c =
    let e = err_from_is_err_and c.from_residual.result c.from_residual.ensures.1 in
    rw (e.1, e.2) (wrapped_stops c.args.wrapper c.in_default.not-Code c.in_default.not-Scope c.in_default.not-Binary _ c.in_err-leaf-in_default.ensures.stops)

pub returns-in-Code-clause-stops : goal.returns-in-Code-clause-stops
returns-in-Code-clause-stops c =
    let is : c.args.wrapper ≡ wrapper.Code = search rules in on_err c.code.result (λ r stops. wrapped_as r c.args.wrapper wrapper.Code is stops) c.code.ensures.stops

pub returns-in-Scope-clause-stops : goal.returns-in-Scope-clause-stops
returns-in-Scope-clause-stops c =
    let is : c.args.wrapper ≡ wrapper.Scope = search rules in
    on_err c.scope_before_code.result (λ r stops. wrapped_as r c.args.wrapper wrapper.Scope is stops) c.scope_before_code.ensures.stops

pub returns-in-Binary-clause-stops : goal.returns-in-Binary-clause-stops
returns-in-Binary-clause-stops c =
    let is : c.args.wrapper ≡ wrapper.Binary = search rules in on_err c.binary.result (λ r stops. wrapped_as r c.args.wrapper wrapper.Binary is stops) c.binary.ensures.stops
