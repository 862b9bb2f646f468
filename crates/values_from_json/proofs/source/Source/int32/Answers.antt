use Rattle.std.proofs.Common.{rules, ◌≡◌, subst, sym, w32, to_z, of_z}
use Rattle.values_from_json.specs.Numbers.{IsQuotedInt32, WritesQuotedInteger}
use Rattle.values_from_json.proofs.Lacks.{no_err, no_int32, no_string, wider}
use Rattle.values_from_json.proofs.Takes.{int32_taken}
use Rattle.values_from_json.proofs.source.Source.int32.Goals as goal

pub returns-in-Ok-clause-some : goal.returns-in-Ok-clause-some
returns-in-Ok-clause-some c =
    let some = c.in_ok-wide.ensures.some in
    let same : to_z w32 (of_z w32 c.in-Ok.value) ≡ c.in_ok-wide.wide = search rules in
    int32_taken some.1 (subst (WritesQuotedInteger some.0) (sym same) some.2) (search rules)

pub returns-in-Err-clause-none : goal.returns-in-Err-clause-none
returns-in-Err-clause-none c = no_int32 c.in_ok-wide.wide c.in_ok-wide.ensures.some.1 c.in_ok-wide.ensures.some.2 (search rules)

pub returns-in_err-wide-clause-none : goal.returns-in_err-wide-clause-none
returns-in_err-wide-clause-none c = no_err c.from_residual.result (no_string IsQuotedInt32 (λ s l w. c.in_err-wide.ensures.none s w.0 (wider w.0 w.2) w.1))
