use Rattle.std.proofs.Common.{◌∷◌, arith, codes, refl}
use Rattle.std.proofs.lemmas.Result.{err_from_is_err_and}
use Rattle.json.specs.Token.{Token}
use Rattle.values_from_json.proofs.Lacks.{differ_at_1, no_binary, no_err_or, no_first, no_key, no_second, or_else, other_way}
use Rattle.values_from_json.proofs.Takes.{base64_then_subtype, first_key, second_key, subtype_then_base64}
use Rattle.values_from_json.proofs.source.Source.binary_object.Goals as goal

pub returns-in_ok-end-clause-some : goal.returns-in_ok-end-clause-some
returns-in_ok-end-clause-some c =
    let key = second_key _ c.if-is_swapped.true c.in_ok-is_swapped.ensures.some in
    subtype_then_base64 refl key c.in_ok-subtype.ensures.some.1 c.in_ok-named.ensures.some c.in_ok-bytes.ensures.some.1 c.in_ok-end.ensures.some
    (c.in_ok-bytes.ensures.some.2, c.in_ok-subtype.ensures.some.2)

pub returns-in_ok-end-2-clause-some : goal.returns-in_ok-end-2-clause-some
returns-in_ok-end-2-clause-some c =
    let key = first_key _ c.if-is_swapped.false c.in_ok-is_swapped.ensures.some in
    base64_then_subtype refl key c.in_ok-bytes-2.ensures.some.1 c.in_ok-named-2.ensures.some c.in_ok-subtype-2.ensures.some.1 c.in_ok-end-2.ensures.some
    (c.in_ok-bytes-2.ensures.some.2, c.in_ok-subtype-2.ensures.some.2)

pub returns-in_err-is_swapped-clause-none : goal.returns-in_err-is_swapped-clause-none
returns-in_err-is_swapped-clause-none c =
    no_err_or c.from_residual.result _ (no_binary (Token.begin_object ∷ c.args.self.now.tokens) (λ text digits bytes subtype decoded digit ms two.
    no_key refl _ _ c.in_err-is_swapped.ensures.none _ _ ms two))

pub returns-in_err-subtype-clause-none : goal.returns-in_err-subtype-clause-none
returns-in_err-subtype-clause-none c =
    let key = second_key _ c.if-is_swapped.true c.in_ok-is_swapped.ensures.some in
    no_err_or c.from_residual-in_err-subtype.result _ (no_binary (Token.begin_object ∷ c.args.self.now.tokens) (λ text digits bytes subtype decoded digit ms two.
    no_first refl (codes "subType") (codes "base64") (differ_at_1 _ _ (λ e. omega (arith, e))) key _ _ (c.in_err-subtype.ensures.none digits _ digit) ms (other_way two)))

pub returns-in_err-bytes-clause-none : goal.returns-in_err-bytes-clause-none
returns-in_err-bytes-clause-none c =
    let key = second_key _ c.if-is_swapped.true c.in_ok-is_swapped.ensures.some in
    let e = err_from_is_err_and c.from_residual-in_err-bytes.result c.from_residual-in_err-bytes.ensures.1 in
    rw (e.1, e.2) (or_else (λ none. no_binary (Token.begin_object ∷ c.args.self.now.tokens) (λ text digits bytes subtype decoded digit ms two.
    no_second refl (codes "subType") (codes "base64") (differ_at_1 _ _ (λ e. omega (arith, e))) key c.in_ok-subtype.ensures.some.1 c.in_ok-named.ensures.some
    digits _ (none text bytes decoded) ms (other_way two))) c.in_err-bytes.ensures.none)

pub returns-in_err-bytes-2-clause-none : goal.returns-in_err-bytes-2-clause-none
returns-in_err-bytes-2-clause-none c =
    let key = first_key _ c.if-is_swapped.false c.in_ok-is_swapped.ensures.some in
    let e = err_from_is_err_and c.from_residual-in_err-bytes-2.result c.from_residual-in_err-bytes-2.ensures.1 in
    rw (e.1, e.2) (or_else (λ none. no_binary (Token.begin_object ∷ c.args.self.now.tokens) (λ text digits bytes subtype decoded digit ms two.
    no_first refl (codes "base64") (codes "subType") (differ_at_1 _ _ (λ e. omega (arith, e))) key _ _ (none text bytes decoded) ms two)) c.in_err-bytes-2.ensures.none)

pub returns-in_err-subtype-2-clause-none : goal.returns-in_err-subtype-2-clause-none
returns-in_err-subtype-2-clause-none c =
    let key = first_key _ c.if-is_swapped.false c.in_ok-is_swapped.ensures.some in
    no_err_or c.from_residual-in_err-subtype-2.result _ (no_binary (Token.begin_object ∷ c.args.self.now.tokens) (λ text digits bytes subtype decoded digit ms two.
    no_second refl (codes "base64") (codes "subType") (differ_at_1 _ _ (λ e. omega (arith, e))) key c.in_ok-bytes-2.ensures.some.1 c.in_ok-named-2.ensures.some
    text _ (c.in_err-subtype-2.ensures.none digits _ digit) ms two))
