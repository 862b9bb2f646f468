use Rattle.std.proofs.Common.{rules, ◌≡◌, subst, sym, w64, to_z, of_z}
use Rattle.std.proofs.lemmas.Int.{to_z-of_z}
use Rattle.values_from_json.specs.Numbers.{IsQuotedInt64, WritesQuotedInteger}
use Rattle.values_from_json.proofs.Lacks.{no_err, no_string}
use Rattle.values_from_json.proofs.Takes.{int64_taken}
use Rattle.values_from_json.proofs.source.Source.int64.Goals as goal

pub returns-clause-some : goal.returns-clause-some
returns-clause-some c =
    let some = c.in_ok-value.ensures.some in
    let same : to_z w64 (of_z w64 c.in_ok-value.value) ≡ c.in_ok-value.value = to_z-of_z w64 c.in_ok-value.value some.3 in
    int64_taken some.1 (subst (WritesQuotedInteger some.0) (sym same) some.2) (search rules)

pub returns-in_err-value-clause-none : goal.returns-in_err-value-clause-none
returns-in_err-value-clause-none c = no_err c.from_residual.result (no_string IsQuotedInt64 (λ s l w. c.in_err-value.ensures.none s w.0 w.2 w.1))
