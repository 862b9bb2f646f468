use Rattle.values_from_json.proofs.Lacks.{no_err, no_key}
use Rattle.values_from_json.proofs.Takes.{first_key, options_then_pattern, pattern_then_options, second_key}
use Rattle.values_from_json.proofs.source.Source.regular_expression.Goals as goal

pub returns-in_ok-end-clause-some : goal.returns-in_ok-end-clause-some
returns-in_ok-end-clause-some c =
    let key = second_key _ c.if-is_swapped.true c.in_ok-is_swapped.ensures.some in
    options_then_pattern c.in_ok-begin.ensures.some key c.in_ok-options.ensures.some c.in_ok-named.ensures.some c.in_ok-pattern.ensures.some c.in_ok-end.ensures.some

pub returns-in_ok-end-2-clause-some : goal.returns-in_ok-end-2-clause-some
returns-in_ok-end-2-clause-some c =
    let key = first_key _ c.if-is_swapped.false c.in_ok-is_swapped.ensures.some in
    pattern_then_options c.in_ok-begin.ensures.some key c.in_ok-pattern-2.ensures.some c.in_ok-named-2.ensures.some c.in_ok-options-2.ensures.some c.in_ok-end-2.ensures.some

pub returns-in_err-is_swapped-clause-none : goal.returns-in_err-is_swapped-clause-none
returns-in_err-is_swapped-clause-none c =
    no_err c.from_residual-in_err-is_swapped.result (λ pattern options p o ms two. no_key c.in_ok-begin.ensures.some _ _ c.in_err-is_swapped.ensures.none _ _ ms two)
