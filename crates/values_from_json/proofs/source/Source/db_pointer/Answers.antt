use Rattle.std.proofs.Common.{codes, arith}
use Rattle.values_from_json.proofs.Lacks.{differ_at_1, no_db_pointer, no_err, no_first, no_second, other_way}
use Rattle.values_from_json.proofs.Takes.{first_key, id_then_ref, ref_then_id, second_key}
use Rattle.values_from_json.proofs.source.Source.db_pointer.Goals as goal

pub returns-in_ok-end-clause-some : goal.returns-in_ok-end-clause-some
returns-in_ok-end-clause-some c =
    let key = second_key _ c.if-is_swapped.true c.in_ok-is_swapped.ensures.some in
    id_then_ref c.in_ok-begin.ensures.some key c.in_ok-id.ensures.some.1 c.in_ok-named.ensures.some c.in_ok-namespace.ensures.some c.in_ok-end.ensures.some c.in_ok-id.ensures.some.2

pub returns-in_ok-end-2-clause-some : goal.returns-in_ok-end-2-clause-some
returns-in_ok-end-2-clause-some c =
    let key = first_key _ c.if-is_swapped.false c.in_ok-is_swapped.ensures.some in
    ref_then_id c.in_ok-begin.ensures.some key c.in_ok-namespace-2.ensures.some c.in_ok-named-2.ensures.some c.in_ok-id-2.ensures.some.1 c.in_ok-end-2.ensures.some c.in_ok-id-2.ensures.some.2

pub returns-in_err-id-clause-none : goal.returns-in_err-id-clause-none
returns-in_err-id-clause-none c =
    let key = second_key _ c.if-is_swapped.true c.in_ok-is_swapped.ensures.some in
    no_err c.from_residual-in_err-id.result (no_db_pointer c.args.self.now.tokens (λ namespace digits id decoded ms two.
    no_first c.in_ok-begin.ensures.some (codes "$id") (codes "$ref") (differ_at_1 _ _ (λ e. omega (arith, e))) key _ _ (c.in_err-id.ensures.none digits id decoded) ms (other_way two)))

pub returns-in_err-id-2-clause-none : goal.returns-in_err-id-2-clause-none
returns-in_err-id-2-clause-none c =
    let key = first_key _ c.if-is_swapped.false c.in_ok-is_swapped.ensures.some in
    no_err c.from_residual-in_err-id-2.result (no_db_pointer c.args.self.now.tokens (λ namespace digits id decoded ms two.
    no_second c.in_ok-begin.ensures.some (codes "$ref") (codes "$id") (differ_at_1 _ _ (λ e. omega (arith, e))) key c.in_ok-namespace-2.ensures.some c.in_ok-named-2.ensures.some
    namespace _ (c.in_err-id-2.ensures.none digits id decoded) ms two))
