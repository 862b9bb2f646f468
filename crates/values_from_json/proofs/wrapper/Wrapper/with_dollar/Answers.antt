use Rattle.std.proofs.Common.{codes, refl, rules}
use Rattle.values_from_json.proofs.Keys.{nor}
use Rattle.values_from_json.proofs.wrapper.Wrapper.with_dollar.Goals as goal

pub returns-in_default : goal.returns-in_default
returns-in_default c =
    let key = c.args.key.now in
    nor key (codes "$oid") _ (search rules)
    (nor key (codes "$numberInt") _ (search rules)
    (nor key (codes "$numberLong") _ (search rules)
    (nor key (codes "$numberDouble") _ (search rules)
    (nor key (codes "$numberDecimal") _ (search rules)
    (nor key (codes "$binary") _ (search rules)
    (nor key (codes "$uuid") _ (search rules)
    (nor key (codes "$date") _ (search rules)
    (nor key (codes "$regularExpression") _ (search rules)
    (nor key (codes "$timestamp") _ (search rules)
    (nor key (codes "$code") _ (search rules)
    (nor key (codes "$scope") _ (search rules)
    (nor key (codes "$dbPointer") _ (search rules)
    (nor key (codes "$symbol") _ (search rules)
    (nor key (codes "$undefined") _ (search rules)
    (nor key (codes "$minKey") _ (search rules)
    (nor key (codes "$maxKey") _ (search rules) refl))))))))))))))))
