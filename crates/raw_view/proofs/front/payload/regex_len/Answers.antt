use Rattle.std.proofs.Common.{sym, subst}
use Rattle.std.proofs.lemmas.Result.{err_from_is_err_and}
use Rattle.raw_view.specs.declared.element_type.ElementType.TheVariants.{RegularExpression}
use Rattle.raw_view.specs.declared.error.ErrorKind.{ErrorKind}
use Rattle.raw_view.specs.Frame.Front.{IsPayloadFault}
use Rattle.raw_view.proofs.Bytes.Texts.{pattern_fault, pattern_fault_no_regex, options_fault, options_fault_no_regex, regex_found}
use Rattle.raw_view.proofs.front.payload.regex_len.Goals as goal

pub returns-in_err-_pattern-clause-none : goal.returns-in_err-_pattern-clause-none
returns-in_err-_pattern-clause-none c =
    let e = err_from_is_err_and c.from_residual.result c.from_residual.ensures.1 in
    rw e.1 (pattern_fault_no_regex _ _ c.in_err-_pattern.ensures.fault)

pub returns-in_err-_pattern-clause-fault : goal.returns-in_err-_pattern-clause-fault
returns-in_err-_pattern-clause-fault c =
    let e = err_from_is_err_and c.from_residual.result c.from_residual.ensures.1 in
    rw e.1 (subst (λ (x : ErrorKind). IsPayloadFault RegularExpression c.args.rest.now x) (sym e.2) (pattern_fault _ _ c.in_err-_pattern.ensures.fault))

pub returns-in_err-_options-clause-none : goal.returns-in_err-_options-clause-none
returns-in_err-_options-clause-none c =
    let e = err_from_is_err_and c.from_residual-in_err-_options.result c.from_residual-in_err-_options.ensures.1 in
    let text = c.in_ok-_pattern.ensures.found in
    rw e.1 (options_fault_no_regex _ _ _ text.0 text.1 c.in_err-_options.ensures.fault)

pub returns-in_err-_options-clause-fault : goal.returns-in_err-_options-clause-fault
returns-in_err-_options-clause-fault c =
    let e = err_from_is_err_and c.from_residual-in_err-_options.result c.from_residual-in_err-_options.ensures.1 in
    let text = c.in_ok-_pattern.ensures.found in
    rw e.1 (subst (λ (x : ErrorKind). IsPayloadFault RegularExpression c.args.rest.now x) (sym e.2) (options_fault _ _ _ _ text.0 text.1 text.2 c.in_err-_options.ensures.fault))

pub returns-clause-found : goal.returns-clause-found
returns-clause-found c =
    let text = c.in_ok-_pattern.ensures.found in
    let more = c.in_ok-_options.ensures.found in
    regex_found _ _ _ _ _ text.0 more.0 text.1 text.2 more.1 more.2
