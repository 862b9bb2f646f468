use Rattle.std.proofs.Common.{refl, rules}
use Rattle.bson_from_json.proofs.Moments.{leaf_taken, on_ok, puts_as}
use Rattle.values_from_json.specs.declared.wrapper.Wrapper.TheVariants as wrapper
use Rattle.values_from_json.proofs.Face.{none_wrapped}
use Rattle.bson_from_json.proofs.Keeps.{each_err, leaf_lacks, leaf_refused, on_err, refused_as}
use Rattle.bson_from_json.proofs.reading.Reader.decimal.Goals as goal

pub returns-clause-some : goal.returns-clause-some
returns-clause-some c = on_ok c.put.result
    (λ puts. leaf_taken wrapper.NumberDecimal c.in_ok-bytes.ensures.some refl c.put.ensures.source tt tt (puts_as puts (search rules))) c.put.ensures.puts

pub returns-in_err-bytes-clause-stops : goal.returns-in_err-bytes-clause-stops
returns-in_err-bytes-clause-stops c = each_err c.from_residual.result (λ r. leaf_lacks r (none_wrapped wrapper.NumberDecimal _ c.in_err-bytes.ensures.none))

pub returns-clause-stops : goal.returns-clause-stops
returns-clause-stops c = on_err c.put.result (λ r over. leaf_refused r wrapper.NumberDecimal c.in_ok-bytes.ensures.some (refused_as over (search rules))) c.put.ensures.refused
