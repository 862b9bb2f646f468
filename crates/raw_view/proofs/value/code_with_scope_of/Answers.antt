use Rattle.std.proofs.Common.{◌≡◌, ◌++◌, ◌∙◌, ℕ, List, subst, sym, arith, refl, drop}
use Rattle.std.proofs.lemmas.Result.{err_from_is_err_and}
use Rattle.raw_view.specs.Frame.Envelope.{Refuses}
use Rattle.raw_view.specs.Frame.{HasNoString}
use Rattle.raw_view.specs.Frame.Reasons.{IsStringReason}
use Rattle.raw_view.specs.Meaning.{malformed, HasNoCode, no_code, code_no_text, no_scope}
use Rattle.raw_view.proofs.Frames.Shapes.{scoped_had, scope_parts, says_malformed, cut_at}
use Rattle.raw_view.proofs.value.code_with_scope_of.Goals as goal

pub returns-in-Err-clause-fault : goal.returns-in-Err-clause-fault
returns-in-Err-clause-fault c =
    let none : HasNoCode c.args.payload.now = subst HasNoString c.split_at.ensures.back c.in-Err.ensures.none in
    let why : IsStringReason (drop 4 c.args.payload.now) c.in-Err.reason = subst (λ (x : List ℕ). IsStringReason x c.in-Err.reason) c.split_at.ensures.back c.in-Err.ensures.reason in
    (malformed c.in-Err.reason, no_code c.in-Err.reason (omega arith) none why refl, c.malformed.ensures.tells)

pub returns-in_err-code-clause-fault : goal.returns-in_err-code-clause-fault
returns-in_err-code-clause-fault c =
    let e = err_from_is_err_and c.from_residual.result c.from_residual.ensures.1 in
    let h = c.in_err-code.ensures.fault in
    let header = scoped_had c.args.payload.now (omega arith) c.requires in
    let cut : drop 4 c.args.payload.now ≡ c.split_at-2.result.0.now ++ c.split_at-2.result.1.now =
    sym c.split_at.ensures.back ∙ cut_at c.split_at.result.1.now _ _ c.in-Ok.len c.split_at-2.ensures.front c.split_at-2.ensures.back in
    let parts = scope_parts _ _ _ h.1.0.0 header cut h.1.0.1 in
    rw e.1 (h.0, code_no_text h.1.0.0 c.split_at-2.result.1.now (omega arith) parts h.1.0.2 h.1.1, rw e.2 h.2)

pub returns-in-Ok-from_bytes-clause-value : goal.returns-in-Ok-from_bytes-clause-value
returns-in-Ok-from_bytes-clause-value c =
    let header = scoped_had c.args.payload.now (omega arith) c.requires in
    let cut : drop 4 c.args.payload.now ≡ c.split_at-2.result.0.now ++ c.split_at-2.result.1.now =
    sym c.split_at.ensures.back ∙ cut_at c.split_at.result.1.now _ _ c.in-Ok.len c.split_at-2.ensures.front c.split_at-2.ensures.back in
    let h = c.in_ok-code.ensures.text in
    (rw c.in-Ok-from_bytes.ensures.same (scope_parts _ _ _ _ header cut h.0), h.1, c.in-Ok-from_bytes.scope.envelope)

pub returns-in-Err-from_bytes-clause-fault : goal.returns-in-Err-from_bytes-clause-fault
returns-in-Err-from_bytes-clause-fault c =
    let header = scoped_had c.args.payload.now (omega arith) c.requires in
    let cut : drop 4 c.args.payload.now ≡ c.split_at-2.result.0.now ++ c.split_at-2.result.1.now =
    sym c.split_at.ensures.back ∙ cut_at c.split_at.result.1.now _ _ c.in-Ok.len c.split_at-2.ensures.front c.split_at-2.ensures.back in
    let h = c.in_ok-code.ensures.text in
    let why = says_malformed (Refuses c.split_at-2.result.1.now) c.in-Err-from_bytes.error.kind c.in-Err-from_bytes.ensures.refused.reason in (
      malformed why.0,
      no_scope c.in_ok-code.code.now c.split_at-2.result.1.now why.0 (omega arith) (scope_parts _ _ _ _ header cut h.0) h.1 why.1 refl,
      record { says = rw c.into_kind.ensures why.2; key_is = refl },
    )
