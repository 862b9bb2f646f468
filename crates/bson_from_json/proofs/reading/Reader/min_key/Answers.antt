use Rattle.std.proofs.Common.{refl, rules}
use Rattle.values_from_json.specs.declared.wrapper.Wrapper.TheVariants as wrapper
use Rattle.bson_from_json.proofs.Moments.{leaf_taken, on_ok, puts_as}
use Rattle.values_from_json.proofs.Face.{no_min_key}
use Rattle.bson_from_json.proofs.Keeps.{each_err, leaf_lacks, leaf_refused, on_err, refused_as}
use Rattle.bson_from_json.proofs.reading.Reader.min_key.Goals as goal

pub returns-clause-some : goal.returns-clause-some
returns-clause-some c = on_ok c.put.result
    (λ puts. leaf_taken wrapper.MinKey (_, c.in_ok-one.ensures.some, (refl, refl)) refl c.put.ensures.source tt tt (puts_as puts (search rules))) c.put.ensures.puts

pub returns-in_err-one-clause-stops : goal.returns-in_err-one-clause-stops
returns-in_err-one-clause-stops c = each_err c.from_residual.result (λ r. leaf_lacks r (no_min_key c.in_err-one.ensures.none))

pub returns-clause-stops : goal.returns-clause-stops
returns-clause-stops c = on_err c.put.result (λ r over. leaf_refused r wrapper.MinKey (_, c.in_ok-one.ensures.some, (refl, refl)) (refused_as over (search rules))) c.put.ensures.refused
