use Rattle.std.proofs.Common.{refl, rules}
use Rattle.values_from_json.specs.declared.wrapper.Wrapper.TheVariants as wrapper
use Rattle.bson_model.proofs.Face.{NulFree-sorted_options}
use Rattle.bson_from_json.proofs.Moments.{leaf_taken, on_ok, puts_as}
use Rattle.values_from_json.proofs.Face.{no_regex, takes_regex}
use Rattle.bson_from_json.proofs.Keeps.{each_err, leaf_lacks, leaf_refused, on_err, refused_as}
use Rattle.bson_from_json.proofs.reading.Reader.regular_expression.Goals as goal

pub returns-clause-some : goal.returns-clause-some
returns-clause-some c =
    let free = c.in_ok-pattern.ensures.nul_free in
    let sorted = NulFree-sorted_options _ c.in_ok-pattern.ensures.texts.1 free.1 in
    on_ok c.put.result
    (λ puts. leaf_taken wrapper.RegularExpression (takes_regex c.in_ok-pattern.ensures.some free.0 free.1) refl c.put.ensures.source (free.0, sorted) tt (puts_as puts (search rules)))
    c.put.ensures.puts

pub returns-in_err-pattern-clause-stops : goal.returns-in_err-pattern-clause-stops
returns-in_err-pattern-clause-stops c = each_err c.from_residual.result (λ r. leaf_lacks r (no_regex c.in_err-pattern.ensures.none))

pub returns-clause-stops : goal.returns-clause-stops
returns-clause-stops c =
    let free = c.in_ok-pattern.ensures.nul_free in
    on_err c.put.result (λ r over. leaf_refused r wrapper.RegularExpression (takes_regex c.in_ok-pattern.ensures.some free.0 free.1) (refused_as over (search rules))) c.put.ensures.refused
